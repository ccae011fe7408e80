-- `want_factors` meets its contract: the factors passed that have the colour are marked by their ends.
use native.Mathlib.Nat.{le_refl}
use Rattle.marking.proofs.Squares.{between_place}
use Rattle.marking.proofs.Trails.{flags_agree, flags_not, rows_part}
use Rattle.marking.proofs.Wanting.{factors_mark, factors_skip, factors_all}
use Rattle.marking.proofs.marks.want_factors.Goals as goal

pub mark_pair-requires : goal.mark_pair-requires
mark_pair-requires c =
    let p = c.requires in
    let l = c.loop-at in
    let e = c.stretch_end-end in
    let low = p.within.stops_low l.at l.invariant.within in
    let high = p.within.stops_low e.result e.ensures.inside in
    let x = rows_part _ _ _ _ _ (le_refl _) l.invariant.same p.rows_of in
    (low, high, between_place _ _ _ low high (x.row l.at l.invariant.within) (x.row e.result e.ensures.inside))

pub loop-at-preserved-then-inb-e : goal.loop-at-preserved-then-inb-e
loop-at-preserved-then-inb-e c = factors_mark _ _ _ _ _ _ _ _ _ _ _ c.stretch_end-end.ensures c.loop-at.invariant _ _ (flags_agree _ _ c.if-inb-e.true) c.mark_pair.ensures

pub loop-at-preserved : goal.loop-at-preserved
loop-at-preserved c = factors_skip _ _ _ _ _ _ _ _ _ _ _ c.stretch_end-end.ensures c.loop-at.invariant (flags_not _ _ c.if-inb-e.false)

pub returns : goal.returns
returns c = factors_all _ _ _ _ _ _ _ _ _ _ c.loop-at-test.false c.loop-at.invariant

-- `settle_edge` meets its contract: the paths at the places passed are read.
use native.Mathlib.Omega.{arith}
use Rattle.marking.proofs.Owing.{edge_more, edge_all, bounds, path_asked, path_rows, path_given}
use Rattle.marking.proofs.settling.settle_edge.Goals as goal

pub bounds-drawn-i-in-loop-j : goal.bounds-drawn-i-in-loop-j
bounds-drawn-i-in-loop-j c = omega (arith, (bounds _ _ c.requires.i_lt_count _ c.requires.drawn_some))

pub bounds-drawn-i-in-loop-j-2 : goal.bounds-drawn-i-in-loop-j-2
bounds-drawn-i-in-loop-j-2 c = omega (arith, (bounds _ _ c.requires.i_lt_count _ c.requires.drawn_some))

pub lay_path-requires : goal.lay_path-requires
lay_path-requires c = path_asked _ _ c.requires.i_lt_count c.loop-j.j c.loop-j-test.true _ c.requires.drawn_some

pub want_along-requires : goal.want_along-requires
want_along-requires c =
    let d = c.requires.drawn_some in
    let l = c.loop-j in
    let g = path_given _ _ c.requires.i_lt_count l.j c.loop-j-test.true _ c.lay_path.ensures d.0 d.1 d.2 d.3 d.4 in
    record { within = g.within; rows_of = path_rows _ _ _ _ _ d.4 _ (omega (arith, l.invariant.same, d.5)) g }

pub loop-j-preserved : goal.loop-j-preserved
loop-j-preserved c =
    let l = c.loop-j in
    let t = c.loop-j-test.true in
    edge_more _ _ _ _ c.requires.i_lt_count _ _ l.j _ _ _ _ _ t (λ ts ls table G d. (path_given _ _ c.requires.i_lt_count l.j t _ c.lay_path.ensures ts ls table G d).trailed) l.invariant c.want_along.ensures

pub returns : goal.returns
returns c = edge_all _ _ _ _ c.requires.i_lt_count _ _ _ _ _ (omega arith) c.loop-j.invariant

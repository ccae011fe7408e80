-- `running::state::State::basic_steps` meets its contract. The invariant: the arrays show the state after the records passed.
use mathlib.Core.Path.{sym, subst, ◌∙◌}
use Prim.Native.Nat.{◌+◌}
use native.Mathlib.Omega.{arith}
use Rattle.tables.specs.TermTable.{terms_of}
use Rattle.tables.specs.LiteralTable.{literals_of}
use Rattle.running.proofs.BasicSteps.{ShowsAfter, sides_small, after_none, after_all, after_edges, turn_taken, turn_left}
use Rattle.running.proofs.state.State.basic_steps.Goals as goal
use Rattle.running.proofs.state.State.basic_steps.Goals.{then-opens, else-opens}

pub loop-i-init : goal.loop-i-init
loop-i-init c bs passed h = after_none _ _ passed _ h

pub opens-requires : goal.opens-requires
opens-requires c =
    let sides = sides_small c.requires.0 c.args.literals.now c.requires.1 c.loop-i.i c.loop-i-test.true c.literal_at-l.ensures in
    (omega (arith, sides.0), omega (arith, sides.1))

pub join-requires : goal.join-requires
join-requires c = let pre = c.requires in
    let more = c.loop-i-test.true in
    let sides = sides_small pre.0 c.args.literals.now pre.1 c.loop-i.i more c.literal_at-l.ensures in
    (omega (arith, sides.0), omega (arith, sides.1), omega (arith, after_edges _ _ pre.1 c.loop-i.i _ (c.loop-i.invariant pre.0 pre.1 pre.2) more))

pub loop-i-preserved : goal.loop-i-preserved
loop-i-preserved c bs passed h = let shows = c.loop-i.invariant bs passed h in
    let literals = c.args.literals.now in
    let i = c.loop-i.i in
    elim c.if-opens.branch [
      | then-opens w ↦ subst (ShowsAfter bs literals passed (i + 1)) (sym w.self-is)
          (turn_taken bs literals passed i c.loop-i-test.true _ c.literal_at-l.ensures _ shows (sym c.opens.ensures ∙ w.if-opens.true) _ (w.join.ensures (terms_of bs) (literals_of literals)))
      | else-opens w ↦ subst (ShowsAfter bs literals passed (i + 1)) (sym w.self-is) (turn_left bs literals passed i c.loop-i-test.true _ c.literal_at-l.ensures _ shows (sym c.opens.ensures ∙ w.if-opens.false))
    ]

pub returns : goal.returns
returns c bs passed h = after_all _ _ passed _ _ (c.loop-i.invariant bs passed h) c.loop-i-test.false

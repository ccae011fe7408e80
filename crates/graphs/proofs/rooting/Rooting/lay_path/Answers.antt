-- `graphs::rooting::Rooting::lay_path` meets its contract: the two climbs leave no vertex twice, so that there is room, and where they meet they have walked the path.
use Rattle.std.proofs.Common.{rules, arith, length, ◌≡◌, set, length-set, ◌∙◌}
use Rattle.std.proofs.Math.Nat.{le_of_lt}
use Rattle.graphs.proofs.Climbs.{closed_up, climbing_none, climbing_room, climbing_left, climbing_right, climbing_met}
use Rattle.graphs.proofs.rooting.Rooting.lay_path.Goals as goal

pub loop-a-init : goal.loop-a-init
loop-a-init c =
    let long : (length c.args.trail.now.stops ≡ 511) × (length c.args.trail.now.edges ≡ 511) = search rules in
    (omega arith, climbing_none _ _ _ _ _ long c.requires.0 c.requires.1)

pub loop-a-preserved-then-self-b : goal.loop-a-preserved-then-self-b
loop-a-preserved-then-self-b c =
    let n = climbing_left c.loop-a.invariant.1 c.requires.2.0 c.requires.2.1 c.loop-a-test.true c.if-self-b.true in
    (climbing_room n, n)

pub loop-a-preserved : goal.loop-a-preserved
loop-a-preserved c =
    let n = climbing_right c.loop-a.invariant.1 c.requires.2.0 c.requires.2.1 c.loop-a-test.true (le_of_lt c.if-self-b.false) in
    (climbing_room n, n)

pub returns : goal.returns
returns c =
    let w = c.loop-a.invariant in
    let stops : length (set c.loop-a.trail.stops c.loop-a.up c.loop-a.a) ≡ 511 = length-set _ _ _ ∙ w.1.long.0 in
    climbing_met w.1 c.loop-a-test.false _ _ (closed_up _ _ stops (omega arith) (omega (arith, w.1.short)) c.copy_within.ensures.after)
    (closed_up _ _ w.1.long.1 (omega arith) (omega (arith, w.1.short)) c.copy_within-2.ensures.after)

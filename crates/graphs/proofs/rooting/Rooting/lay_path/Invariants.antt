-- `graphs::rooting::Rooting::lay_path`: the two climbs leave no vertex twice, so that there is room. The measure is the room that is left.
use Rattle.std.proofs.Common.{◌<◌, ◌-◌}
use Rattle.graphs.proofs.Climbs.{Climbing}
use Rattle.graphs.proofs.rooting.Rooting.lay_path.Given as goal

abbrev pub invariant-loop-a : goal.invariant-loop-a
invariant-loop-a l = (l.up < l.top) × Climbing l.self l.u l.v l.trail.stops l.trail.edges l.a l.b l.up l.top

abbrev pub decreases-loop-a : goal.decreases-loop-a
decreases-loop-a l = l.top - l.up

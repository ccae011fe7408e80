-- `graphs::rooting::rooted`: every pass but the last reaches more of the 511 vertices.
use Rattle.std.proofs.Common.{◌-◌}
use Rattle.graphs.specs.Layout.{edges_of}
use Rattle.graphs.specs.Rooting.{positives, Growing}
use Rattle.graphs.proofs.rooting.rooted.Given as goal

abbrev pub invariant-loop : goal.invariant-loop
invariant-loop l = Growing (edges_of l.graph) l.forest

abbrev pub decreases-loop : goal.decreases-loop
decreases-loop l = 511 - positives l.forest.rank

-- `graphs::rooting::roots`: the numbers that are their own labels are marked, from the front.
use Rattle.graphs.proofs.Rooted.{Marking}
use Rattle.graphs.proofs.rooting.roots.Given as goal

abbrev pub invariant-loop-v : goal.invariant-loop-v
invariant-loop-v l = Marking l.labels l.rank l.v

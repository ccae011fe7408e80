-- `graphs::rooting::Rooting::pass`: the edges looked at lead to nothing new, or something more was reached.
use Rattle.graphs.specs.Rooting.{positives}
use Rattle.graphs.proofs.Rooted.{Passing}
use Rattle.graphs.proofs.rooting.Rooting.pass.Given as goal

abbrev pub invariant-loop-i : goal.invariant-loop-i
invariant-loop-i l = Passing l.graph.edges l.graph.count (positives l.initial.self.rank) l.self l.more l.i

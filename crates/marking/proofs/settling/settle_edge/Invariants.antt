-- `settle_edge` meets its contract: the paths at the places passed are read.
use Rattle.marking.proofs.Owing.{EdgeTo}
use Rattle.marking.proofs.settling.settle_edge.Given as goal

abbrev pub invariant-loop-j : goal.invariant-loop-j
invariant-loop-j l = EdgeTo l.drawn l.i l.b l.whole l.initial.pairs l.initial.marks l.j l.pairs l.marks

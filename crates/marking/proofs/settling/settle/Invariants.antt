-- `settle` meets its contract: what is owed stays the same while the marked edges are read, the newest first.
use Rattle.marking.proofs.Owing.{SettledTo}
use Rattle.marking.proofs.settling.settle.Given as goal

abbrev pub invariant-loop-i : goal.invariant-loop-i
invariant-loop-i l = SettledTo l.drawn l.b l.initial.pairs l.initial.marks l.i l.pairs l.marks

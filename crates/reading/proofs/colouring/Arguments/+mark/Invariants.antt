-- `mark` meets its contract. The measure is the term number: arguments are lower. The loop keeps that the first j arguments and their parts are marked.
use Rattle.reading.proofs.Marks.{MarkedUpTo}
use Rattle.reading.proofs.colouring.Arguments.+mark.Given as goal

abbrev pub decreases-mark : goal.decreases-mark
decreases-mark l = l.t

abbrev pub invariant-loop-j : goal.invariant-loop-j
invariant-loop-j l = MarkedUpTo l.self.rows.now l.self.arities.now l.t l.j l.initial.marks l.marks

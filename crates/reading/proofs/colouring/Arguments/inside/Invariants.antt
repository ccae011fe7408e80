-- `inside` meets its contract: the loop keeps that the literals passed are marked, with all their parts, and nothing else.
use Rattle.reading.specs.Marks.{Inside}
use Rattle.reading.proofs.colouring.Arguments.inside.Given as goal

abbrev pub invariant-loop-k : goal.invariant-loop-k
invariant-loop-k l = Inside l.self.rows.now l.self.arities.now l.literals l.side l.k l.marks

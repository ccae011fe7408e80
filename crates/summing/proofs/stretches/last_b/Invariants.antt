-- `last_b` meets its contract: no stop passed is in B.
use Rattle.summing.proofs.Stretching.{LastTo}
use Rattle.summing.proofs.stretches.last_b.Given as goal

abbrev pub invariant-loop-i : goal.invariant-loop-i
invariant-loop-i l = LastTo l.colours l.path l.lo l.i

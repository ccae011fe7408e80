-- `first_b` meets its contract: no stop passed is in B.
use Rattle.summing.proofs.Stretching.{FirstTo}
use Rattle.summing.proofs.stretches.first_b.Given as goal

abbrev pub invariant-loop-i : goal.invariant-loop-i
invariant-loop-i l = FirstTo l.colours l.path l.i

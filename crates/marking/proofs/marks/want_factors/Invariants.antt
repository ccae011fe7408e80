-- `want_factors` meets its contract: the factors passed that have the colour are marked by their ends.
use Prim.Native.Nat.{◌-◌}
use Rattle.marking.proofs.Wanting.{FactorsUpTo}
use Rattle.marking.proofs.marks.want_factors.Given as goal

abbrev pub invariant-loop-at : goal.invariant-loop-at
invariant-loop-at l = FactorsUpTo l.inb l.trail l.lo l.hi l.b l.initial.pairs l.initial.rows l.at l.pairs l.rows

abbrev pub decreases-loop-at : goal.decreases-loop-at
decreases-loop-at l = l.hi - l.at

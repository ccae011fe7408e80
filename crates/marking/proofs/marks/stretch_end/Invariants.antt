-- `stretch_end` meets its contract: the edges passed have the colour of the first.
use Rattle.marking.proofs.Trails.{SameTo}
use Rattle.marking.proofs.marks.stretch_end.Given as goal

abbrev pub invariant-loop-i : goal.invariant-loop-i
invariant-loop-i l = SameTo l.inb l.trail l.lo l.hi l.i

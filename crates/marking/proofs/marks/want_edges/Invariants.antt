-- `want_edges` meets its contract: the edges passed that have the colour are marked.
use Rattle.marking.proofs.Wanting.{EdgesUpTo}
use Rattle.marking.proofs.marks.want_edges.Given as goal

abbrev pub invariant-loop-i : goal.invariant-loop-i
invariant-loop-i l = EdgesUpTo l.inb l.trail l.lo l.hi l.b l.initial.marks l.i l.marks

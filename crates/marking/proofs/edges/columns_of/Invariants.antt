-- `marking::edges::columns_of` meets its contract: the columns hold the edges passed, each under its number.
use Rattle.marking.proofs.Filling.{Laid}
use Rattle.marking.proofs.edges.columns_of.Given as goal

abbrev pub invariant-loop-i : goal.invariant-loop-i
invariant-loop-i l = Laid l.edges l.i l.c

-- The invariant of `report::classes::term_lines`: the lines of the terms passed are written.
use mathlib.Core.List.{flat_map}
use Rattle.tables.specs.Words.{below}
use Rattle.report.specs.Text.{term_line}
use Rattle.report.specs.Writer.{Writes}
use Rattle.report.proofs.classes.term_lines.Given as goal

abbrev pub invariant-loop-i : goal.invariant-loop-i
invariant-loop-i l = Writes l.initial.out l.out (flat_map (term_line l.partition) (below l.i))

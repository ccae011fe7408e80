-- The invariant of `report::added::added_lines`: the lines of the terms passed are written.
use mathlib.Core.List.{flat_map}
use Rattle.tables.specs.Words.{below}
use Rattle.report.specs.Text.{added_line}
use Rattle.report.specs.Writer.{Writes}
use Rattle.report.proofs.added.added_lines.Given as goal

abbrev pub invariant-loop-i : goal.invariant-loop-i
invariant-loop-i l = Writes l.initial.out l.out (flat_map (added_line l.given l.added) (below l.i))

-- The invariant of `report::added::arguments`: the arguments passed are written.
use mathlib.Core.List.{flat_map}
use Rattle.tables.specs.Words.{below}
use Rattle.report.specs.Text.{argument_text}
use Rattle.report.specs.Writer.{Writes}
use Rattle.report.proofs.added.arguments.Given as goal

abbrev pub invariant-loop-j : goal.invariant-loop-j
invariant-loop-j l = Writes l.initial.out l.out (flat_map (argument_text l.added l.i) (below l.j))

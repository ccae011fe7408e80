-- The invariant of `report::horn::clause_lines`: what is written and what is left are all lines.
use mathlib.Core.Path.{◌≡◌}
use Prim.Native.Nat.{◌≤◌}
use Rattle.report.specs.Page.{puts}
use Rattle.report.specs.Writer.{page_of}
use Rattle.report.proofs.ClauseLines.{left}
use Rattle.report.proofs.horn.clause_lines.Given as goal

abbrev pub invariant-loop-i : goal.invariant-loop-i
invariant-loop-i l = (l.start ≤ l.i) × (l.out.out.ghost_name ≡ l.initial.out.out.ghost_name) × (puts (page_of l.out) (left l.clauses l.start l.i l.records) ≡ puts (page_of l.initial.out) (left l.clauses 0 0 l.records))

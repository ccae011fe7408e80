-- The invariant of `report::horn::more_premises`: the premises passed are written.
use mathlib.Core.List.{flat_map}
use Prim.Native.Nat.{◌-◌}
use Rattle.report.specs.Text.{and_pair}
use Rattle.report.specs.Records.{pairs_from}
use Rattle.report.specs.Writer.{Writes}
use Rattle.report.proofs.horn.more_premises.Given as goal

abbrev pub invariant-loop-j : goal.invariant-loop-j
invariant-loop-j l = Writes l.initial.out l.out (flat_map and_pair (pairs_from l.clauses l.from (l.j - l.from)))

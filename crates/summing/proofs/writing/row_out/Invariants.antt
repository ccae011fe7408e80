-- `row_out` meets its contract: the columns passed are written and cleared.
use Rattle.summing.specs.Writing.{sheet_of, Lent}
use Rattle.summing.proofs.RecordsOut.{RowTo}
use Rattle.summing.proofs.writing.row_out.Given as goal

abbrev pub invariant-loop-v : goal.invariant-loop-v
invariant-loop-v l =
    Lent l.initial.records l.records × RowTo l.u l.vertices l.initial.found (sheet_of l.initial.records) l.v l.found (sheet_of l.records)

-- `premises_out` meets its contract: the rows passed are written and cleared.
use Rattle.summing.specs.Writing.{sheet_of, Lent}
use Rattle.summing.proofs.RecordsOut.{RowsTo}
use Rattle.summing.proofs.writing.premises_out.Given as goal

abbrev pub invariant-loop-u : goal.invariant-loop-u
invariant-loop-u l =
    Lent l.initial.records l.records × RowsTo l.vertices l.initial.found (sheet_of l.initial.records) l.u l.found (sheet_of l.records)

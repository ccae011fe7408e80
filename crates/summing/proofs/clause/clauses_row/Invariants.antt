-- `clauses_row` meets its contract: the clauses of the columns passed are written.
use Rattle.summing.specs.Writing.{sheet_of, Lent}
use Rattle.summing.proofs.ClausesOut.{RowClauses}
use Rattle.summing.proofs.clause.clauses_row.Given as goal

abbrev pub invariant-loop-v : goal.invariant-loop-v
invariant-loop-v l =
    Lent l.initial.records l.records × RowClauses l.drawn l.vertices l.pairs l.u l.initial.found (sheet_of l.initial.records) l.v l.found (sheet_of l.records)

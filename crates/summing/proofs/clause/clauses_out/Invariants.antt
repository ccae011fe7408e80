-- `clauses_out` meets its contract: the clauses of the rows passed are written.
use Rattle.summing.specs.Writing.{sheet_of, Lent}
use Rattle.summing.proofs.ClausesOut.{RowsClauses}
use Rattle.summing.proofs.clause.clauses_out.Given as goal

abbrev pub invariant-loop-u : goal.invariant-loop-u
invariant-loop-u l =
    Lent l.initial.records l.records × RowsClauses l.drawn l.vertices l.conclusions.pairs.now l.initial.found (sheet_of l.initial.records) l.u l.found (sheet_of l.records)

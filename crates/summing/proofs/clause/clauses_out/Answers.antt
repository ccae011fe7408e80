-- `clauses_out` meets its contract: the clauses of the rows passed are written.
use mathlib.Core.Path.{refl}
use Rattle.summing.proofs.RecordsOut.{stepped}
use Rattle.summing.proofs.ClausesOut.{RowsClauses, rows_clauses_none, rows_clauses_skip, rows_clauses_take, rows_clauses_all}
use Rattle.summing.proofs.clause.clauses_out.Goals as goal
use Rattle.summing.proofs.clause.clauses_out.Goals.{then-conclusions-u, else-conclusions-u}

pub loop-u-init : goal.loop-u-init
loop-u-init c = (refl, rows_clauses_none _ _ _ _ _ c.requires.blank.clear)

pub loop-u-preserved : goal.loop-u-preserved
loop-u-preserved c = let x = c.loop-u.invariant in
    let p = c.requires.vertices_bound in
    let t = c.loop-u-test.true in
    elim c.if-conclusions-u.branch [
      | then-conclusions-u w ↦ stepped (RowsClauses _ _ _ _ _ _) c.args.records.now c.loop-u.records w.found-is w.records-is x.0 w.clauses_row.ensures.lent (rows_clauses_take _ _ _ _ _ _ _ _ p.0 t x.1 _ _ w.clauses_row.ensures.put)
      | else-conclusions-u w ↦ stepped (RowsClauses _ _ _ _ _ _) c.args.records.now c.loop-u.records w.found-is w.records-is x.0 refl (rows_clauses_skip _ _ _ _ _ _ _ _ p.0 t x.1 c.args.conclusions.now.rows.now p.3 w.if-conclusions-u.false)
    ]

pub returns-clause-put : goal.returns-clause-put
returns-clause-put c = rows_clauses_all _ _ _ _ _ _ _ _ c.requires.vertices_bound.0 c.loop-u-test.false c.loop-u.invariant.1

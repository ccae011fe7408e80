-- `clauses_row` meets its contract: the clauses of the columns passed are written.
use mathlib.Core.Path.{refl}
use Rattle.summing.proofs.RecordsOut.{stepped}
use Rattle.summing.proofs.ClausesOut.{RowClauses, row_clauses_none, row_clauses_skip, row_clauses_take}
use Rattle.summing.proofs.clause.clauses_row.Goals as goal
use Rattle.summing.proofs.clause.clauses_row.Goals.{then-pairs-u, else-pairs-u}

pub loop-v-init : goal.loop-v-init
loop-v-init c = (refl, row_clauses_none _ _ _ _ _ _ c.requires.u_lt_vertices.0 c.requires.blank.clear)

pub loop-v-preserved : goal.loop-v-preserved
loop-v-preserved c = let x = c.loop-v.invariant in
    let t = c.loop-v-test.true in
    elim c.if-pairs-u.branch [
      | then-pairs-u w ↦ stepped (RowClauses _ _ _ _ _ _ _) c.args.records.now c.loop-v.records w.found-is w.records-is x.0 w.clause_out.ensures.lent (row_clauses_take _ _ _ _ _ _ _ _ _ t x.1 _ _ w.if-pairs-u.true w.clause_out.ensures.put)
      | else-pairs-u w ↦ stepped (RowClauses _ _ _ _ _ _ _) c.args.records.now c.loop-v.records w.found-is w.records-is x.0 refl (row_clauses_skip _ _ _ _ _ _ _ _ _ t x.1 w.if-pairs-u.false)
    ]

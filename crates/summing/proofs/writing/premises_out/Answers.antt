-- `premises_out` meets its contract: the rows passed are written and cleared.
use mathlib.Core.Path.{refl}
use Rattle.summing.proofs.RecordsOut.{RowsTo, stepped, rows_none, rows_skip, rows_take, rows_all}
use Rattle.summing.proofs.writing.premises_out.Goals as goal
use Rattle.summing.proofs.writing.premises_out.Goals.{then-rows-u, else-rows-u}

pub loop-u-init : goal.loop-u-init
loop-u-init c = (refl, rows_none _ _ _ c.requires.vertices_bound.0)

pub loop-u-preserved : goal.loop-u-preserved
loop-u-preserved c = let small = c.requires.vertices_bound.0 in
    let x = c.loop-u.invariant in
    let h = c.loop-u-test.true in
    elim c.if-rows-u.branch [
      | then-rows-u w ↦ stepped (RowsTo _ _ _ _) c.args.records.now c.loop-u.records w.found-is w.records-is x.0 w.row_out.ensures.lent (rows_take _ _ _ small _ _ _ h x.1 _ _ w.row_out.ensures.put)
      | else-rows-u w ↦ stepped (RowsTo _ _ _ _) c.args.records.now c.loop-u.records w.found-is w.records-is x.0 refl (rows_skip _ _ _ small _ _ _ h x.1 c.args.rows.now c.requires.vertices_in_bounds.1 w.if-rows-u.false)
    ]

pub returns-clause-put : goal.returns-clause-put
returns-clause-put c = rows_all _ _ _ c.requires.vertices_bound.0 _ _ _ c.loop-u-test.false c.loop-u.invariant.1

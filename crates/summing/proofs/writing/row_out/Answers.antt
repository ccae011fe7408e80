-- `row_out` meets its contract: the columns passed are written and cleared.
use mathlib.Core.Path.{refl}
use Rattle.summing.proofs.RecordsOut.{RowTo, stepped, row_none, row_skip, row_take}
use Rattle.summing.proofs.writing.row_out.Goals as goal
use Rattle.summing.proofs.writing.row_out.Goals.{then-found-k, else-found-k}

pub loop-v-init : goal.loop-v-init
loop-v-init c = (refl, row_none _ _ _ _ c.requires.u_lt_vertices.1 c.requires.u_lt_vertices.0)

pub loop-v-preserved : goal.loop-v-preserved
loop-v-preserved c = let p = c.requires in
    let x = c.loop-v.invariant in
    let h = c.loop-v-test.true in
    elim c.if-found-k.branch [
      | then-found-k w ↦ stepped (RowTo _ _ _ _ _) c.args.records.now c.loop-v.records w.found-is w.records-is x.0 w.put.ensures.lent (row_take _ _ _ _ p.u_lt_vertices.1 _ _ _ h x.1 p.vertices_in_bounds w.if-found-k.true _ w.put.ensures.put)
      | else-found-k w ↦ stepped (RowTo _ _ _ _ _) c.args.records.now c.loop-v.records w.found-is w.records-is x.0 refl (row_skip _ _ _ _ p.u_lt_vertices.1 _ _ _ h x.1 w.if-found-k.false)
    ]

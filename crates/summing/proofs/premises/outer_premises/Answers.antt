-- `outer_premises` meets its contract: the premises of the outer stretches are marked, written and cleared.
use native.Mathlib.Omega.{arith}
use Rattle.summing.proofs.ClausesOut.{none_covered, outer_put}
use Rattle.summing.proofs.premises.outer_premises.Goals as goal

pub premises_out-requires-clause-vertices_in_bounds : goal.premises_out-requires-clause-vertices_in_bounds
premises_out-requires-clause-vertices_in_bounds c = let o = c.want_outer.ensures in
    (omega (arith, c.settle.ensures.same, o.after.same, o.before.same, c.requires.blank.rows), c.settle.ensures.cover (o.after.cover (o.before.cover (none_covered _ c.requires.blank.clear _))))

pub returns-clause-put : goal.returns-clause-put
returns-clause-put c = outer_put _ _ _ c.requires.room.0 c.args.found.now _ _ _ _ _ c.requires.blank.clear c.none.ensures c.want_outer.ensures c.settle.ensures _ _ _ c.premises_out.ensures.put

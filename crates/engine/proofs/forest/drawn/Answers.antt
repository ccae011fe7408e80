-- `engine::forest::drawn` meets its contract: what is laid out holds the last graph.
use Rattle.std.proofs.Common.{rules, length, ◌≡◌, refl, arith}
use Rattle.running.proofs.OnRuns.{can_root}
use Rattle.engine.proofs.LastState.{on_run, ends_in, drawn_of, columns_drawn}
use Rattle.engine.proofs.forest.drawn.Goals as goal

pub columns_of-columns-requires : goal.columns_of-columns-requires
columns_of-columns-requires c =
    let few = (can_root (on_run c.requires.1)).0 in
    let long : length c.args.end.now.graph.edges ≡ 510 = search rules in
    (omega (arith, few, long), few)

pub rooted-requires : goal.rooted-requires
rooted-requires c = can_root (on_run c.requires.1)

-- Both ends of an edge are terms, so either column meets what `places` and `lay_parents` ask: an edit that exchanges the columns is refused where it makes
-- something false, and not here.
pub places-requires : goal.places-requires
places-requires c =
    let w = c.requires.1 in
    let e = ends_in w _ (columns_drawn _ _ c.columns_of-columns.ensures) in
    ((can_root (on_run w)).0, search e)

pub lay_parents-requires : goal.lay_parents-requires
lay_parents-requires c = let w = c.requires.1 in
    let e = ends_in w _ (columns_drawn _ _ c.columns_of-columns.ensures) in
    ((can_root (on_run w)).0, search e, search e)

pub returns : goal.returns
returns c t w = drawn_of w _ _ c.rooted.ensures refl refl (columns_drawn _ _ c.columns_of-columns.ensures) c.places.ensures c.lay_parents.ensures

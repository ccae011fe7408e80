-- `running::state::State::middle_step` meets its contract: the rooted forest gives the choice, the middle term is put in its place, and both ends are
-- tied to it.
use Rattle.running.proofs.OnRuns.{vertex_small, can_root, choosing, choice_there, placing, put_shown, middle_small, first_room, second_room, middle_outcome}
use Rattle.running.proofs.state.State.middle_step.Goals as goal

pub rooted-forest-requires : goal.rooted-forest-requires
rooted-forest-requires c = can_root c.requires.0

pub chosen-requires : goal.chosen-requires
chosen-requires c = let run = c.requires.0 in
    let apart = c.requires.1 in
    (vertex_small run _ apart.left_vertex, vertex_small run _ apart.right_vertex, choosing run _ _ apart _ c.rooted-forest.ensures)

pub returns-in_err-row : goal.returns-in_err-row
returns-in_err-row c run apart = absurd (choice_there run _ _ apart _ c.rooted-forest.ensures _ c.chosen.ensures c.in_err-row.ensures.value)

pub place-m-requires : goal.place-m-requires
place-m-requires c = let run = c.requires.0 in
    let apart = c.requires.1 in
    (vertex_small run _ apart.left_vertex, placing run _ _ apart _ c.rooted-forest.ensures _ c.chosen.ensures _ c.in_ok-row.ensures.value)

pub tie-requires : goal.tie-requires
tie-requires c = let run = c.requires.0 in
    let apart = c.requires.1 in
    let there = put_shown run _ _ apart _ c.rooted-forest.ensures _ c.chosen.ensures _ c.in_ok-row.ensures.value _ _ c.place-m.ensures in
    (vertex_small run _ apart.left_vertex, middle_small run _ _ apart _ _ there.0 there.1, first_room run _ _ apart _ _ there.0 there.1)

pub tie-requires-2 : goal.tie-requires-2
tie-requires-2 c = let run = c.requires.0 in
    let apart = c.requires.1 in
    let there = put_shown run _ _ apart _ c.rooted-forest.ensures _ c.chosen.ensures _ c.in_ok-row.ensures.value _ _ c.place-m.ensures in
    (vertex_small run _ apart.right_vertex, middle_small run _ _ apart _ _ there.0 there.1, second_room run _ _ apart _ _ there.0 there.1 _ (c.tie.ensures run.ts run.ls _ there.0))

pub returns : goal.returns
returns c run apart = let there = put_shown run _ _ apart _ c.rooted-forest.ensures _ c.chosen.ensures _ c.in_ok-row.ensures.value _ _ c.place-m.ensures in
    middle_outcome run _ _ apart _ _ there.0 there.1 _ (c.tie-2.ensures run.ts run.ls _ (c.tie.ensures run.ts run.ls _ there.0))

-- `running::state::State::chosen` meets its contract. The invariant: the terms chosen for the arguments passed stand in the row.
use mathlib.Core.Path.{sym, ◌∙◌}
use native.Mathlib.Omega.{arith}
use Rattle.running.proofs.Choices.{chosen_nothing, chosen_all, chosen_stuck, chosen_more, can_walk, walks, stops_below, met_is}
use Rattle.running.proofs.state.State.chosen.Goals as goal

pub loop-j-init : goal.loop-j-init
loop-j-init c w = chosen_nothing w

pub lay_path-requires : goal.lay_path-requires
lay_path-requires c = can_walk c.requires.2 c.loop-j.j c.loop-j-test.true

pub overflow_add-trail : goal.overflow_add-trail
overflow_add-trail c = let trail = c.lay_path.ensures c.requires.2.graph (walks c.requires.2 c.loop-j.j c.loop-j-test.true) in omega (arith, trail.within)

pub shared_ref_as_front-first_shared : goal.shared_ref_as_front-first_shared
shared_ref_as_front-first_shared c = let trail = c.lay_path.ensures c.requires.2.graph (walks c.requires.2 c.loop-j.j c.loop-j-test.true) in omega (arith, trail.within)

pub first_shared-requires : goal.first_shared-requires
first_shared-requires c = let w = c.requires.2 in
    let more = c.loop-j-test.true in
    stops_below w c.loop-j.j more _ (c.lay_path.ensures w.graph (walks w c.loop-j.j more))

pub returns-in_err-row : goal.returns-in_err-row
returns-in_err-row c w = let j = c.loop-j.j in
    let more = c.loop-j-test.true in
    c.from_residual.ensures ∙
    chosen_stuck w j more _ (c.loop-j.invariant w) (sym (met_is w j more _ (c.lay_path.ensures w.graph (walks w j more))) ∙ sym c.in_err-row.ensures)

pub loop-j-preserved : goal.loop-j-preserved
loop-j-preserved c w = let j = c.loop-j.j in
    let more = c.loop-j-test.true in
    chosen_more w j more _ _ (c.loop-j.invariant w) (sym (met_is w j more _ (c.lay_path.ensures w.graph (walks w j more))) ∙ sym c.in_ok-row.ensures)

pub returns : goal.returns
returns c w = chosen_all w _ c.loop-j.j (c.loop-j.invariant w) c.loop-j-test.false

-- `running::state::State::place` meets its contract: a vertex that equals the middle term stays, else the new one comes behind all others.
use Rattle.running.proofs.EqualVertex.{placed_there, placed_new}
use Rattle.running.proofs.state.State.place.Goals as goal

pub returns-in-Some : goal.returns-in-Some
returns-in-Some c p = placed_there p _ (c.in-Some.ensures p)

pub returns : goal.returns
returns c p = placed_new p (c.in_default.ensures p)

-- `running::state::State::lay` meets its contract: the tables' columns stand in front of blank arrays.
use mathlib.Core.Path.{refl}
use Rattle.running.proofs.Beginning.{opens}
use Rattle.running.proofs.state.State.lay.Goals as goal

pub returns : goal.returns
returns c from = opens _ from _ _ c.requires refl c.lay_front.ensures c.lay_front-2.ensures c.lay_front-3.ensures c.lay_front-4.ensures c.lay_front-5.ensures refl refl

-- `running::state::State::join` meets its contract: the graph and the labels are those of one edge more, and nothing else changes.
use Rattle.running.proofs.Showing.{shows_edge}
use Rattle.running.proofs.state.State.join.Goals as goal

pub returns : goal.returns
returns c ts ls st h = let pre = c.requires in
    shows_edge ts ls st _ h _ _ _ _ _ _ pre.0 pre.1 c.with_edge-self.ensures.0 c.with_edge-self.ensures.1 c.relabel.ensures

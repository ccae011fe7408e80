-- `running::state::State::tie` meets its contract: nothing is done where the labels are the same, else there is one edge more.
use Rattle.running.proofs.Tying.{shows_joined, shows_tied}
use Rattle.running.proofs.state.State.tie.Goals as goal

pub returns-then-self-s : goal.returns-then-self-s
returns-then-self-s c ts ls reached shows = let pre = c.requires in
    shows_tied ts ls reached _ shows _ _ pre.0 pre.1 _ _ c.if-self-s.true (c.join.ensures ts ls reached shows)

pub returns-else-self-s : goal.returns-else-self-s
returns-else-self-s c ts ls reached shows = let pre = c.requires in
    shows_joined ts ls reached _ shows _ _ pre.0 pre.1 _ c.if-self-s.false

-- `running::state::State::first_pair` meets its contract. The invariant: no pair of a term passed is one, for every graph of which the array holds the
-- labels.
use Rattle.running.proofs.PairTest.{found_first, found_none}
use Rattle.running.proofs.state.State.first_pair.Goals as goal

pub returns-in-Some : goal.returns-in-Some
returns-in-Some c ts ls reached shows all one = let pre = c.requires in
    let G = reached.graph in
    found_first ts ls reached _ shows pre.1 _ all pre.0 _ c.keys-keys.ensures one _ _ (c.in-Some.ensures G shows.labels) (c.loop-s.invariant G shows.labels)

pub returns : goal.returns
returns c ts ls reached shows all one = let pre = c.requires in
    found_none ts ls reached _ shows pre.1 _ all pre.0 _ c.keys-keys.ensures _ c.loop-s-test.false (c.loop-s.invariant reached.graph shows.labels)

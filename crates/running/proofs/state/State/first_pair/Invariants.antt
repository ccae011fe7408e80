-- `running::state::State::first_pair` meets its contract. The invariant: no pair of a term passed is one, for every graph of which the array holds the
-- labels.
use mathlib.Core.Path.{◌≡◌}
use Rattle.closure.specs.Graph.{Graph}
use Rattle.graphs.specs.Layout.{labels_of}
use Rattle.running.specs.Keys.{tested}
use Rattle.running.proofs.PairTest.{NoneBelow}
use Rattle.running.proofs.state.State.first_pair.Given as goal

abbrev pub invariant-loop-s : goal.invariant-loop-s
invariant-loop-s l = (G : Graph) → l.self.labels ≡ labels_of G → NoneBelow l.given (tested l.keys l.self G) l.s

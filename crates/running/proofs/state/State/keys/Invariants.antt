-- `running::state::State::keys` meets its contract. The invariant: the keys of the terms passed are written.
use mathlib.Core.Bool.{false, cond}
use mathlib.Core.List.{[]}
use Prim.Native.Nat.{◌+◌}
use lib.ListN.{get_or}
use Rattle.tables.proofs.Records.{Filling}
use Rattle.running.specs.Keys.{key_of}
use Rattle.running.proofs.state.State.keys.Given as goal

abbrev pub invariant-loop-t : goal.invariant-loop-t
invariant-loop-t l = Filling 256 0 (λ k. cond (get_or l.self.vertices k false) (key_of l.self.labels (get_or l.self.symbols k 0) (get_or l.self.rows k []) + 1) 0) l.given l.t l.keys

-- `running::state::State::keys` meets its contract. The invariant: the keys of the terms passed are written.
use native.Mathlib.Omega.{arith}
use Rattle.tables.proofs.Records.{filling_none, filling_more, filling_all}
use Rattle.running.specs.Keys.{keys_of}
use Rattle.running.proofs.state.State.keys.Goals as goal

pub loop-t-init : goal.loop-t-init
loop-t-init c = filling_none 256 0 _ _

pub loop-t-preserved : goal.loop-t-preserved
loop-t-preserved c = filling_more _ _ _ _ _ _ _ c.requires.0 c.loop-t.invariant c.loop-t-test.true c.key.ensures

pub returns : goal.returns
unfolding keys_of
returns c = filling_all _ _ _ _ _ _ _ (omega arith) c.loop-t.invariant c.loop-t-test.false

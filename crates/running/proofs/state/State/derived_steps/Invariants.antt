-- `running::state::State::derived_steps` meets its contract. The invariant: the state is one of a run, and the turns left come to the same end.
use mathlib.Core.Path.{◌≡◌}
use lib.ListN.{length}
use Rattle.running.specs.Stepping.{OnRun}
use Rattle.running.proofs.OwnTurns.{TurnsLeft}
use Rattle.running.proofs.state.State.derived_steps.Given as goal

abbrev pub invariant-loop-turn : goal.invariant-loop-turn
invariant-loop-turn l = (run : OnRun l.initial.self) → l.n ≡ length run.ts → TurnsLeft run l.n l.self l._turn

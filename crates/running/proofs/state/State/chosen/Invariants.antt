-- `running::state::State::chosen` meets its contract. The invariant: the terms chosen for the arguments passed stand in the row.
use Rattle.running.specs.Stepping.{Choosing}
use Rattle.running.proofs.Choices.{Chosen}
use Rattle.running.proofs.state.State.chosen.Given as goal

abbrev pub invariant-loop-j : goal.invariant-loop-j
invariant-loop-j l = (w : Choosing l.self l.forest l.s l.t) → Chosen w l.row l.j

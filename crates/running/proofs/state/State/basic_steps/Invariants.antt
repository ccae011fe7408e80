-- `running::state::State::basic_steps` meets its contract. The invariant: the arrays show the state after the records passed.
use mathlib.Core.List.{List}
use mathlib.Core.Path.{◌≡◌}
use Prim.Native.Nat.{ℕ}
use Rattle.tables.specs.Checks.{Sound, checked}
use Rattle.tables.specs.TermTable.{terms_of}
use Rattle.tables.specs.LiteralTable.{literals_of}
use Rattle.closure.specs.Steps.{begin}
use Rattle.running.specs.Shown.{Shows}
use Rattle.running.proofs.BasicSteps.{ShowsAfter}
use Rattle.running.proofs.state.State.basic_steps.Given as goal

abbrev pub invariant-loop-i : goal.invariant-loop-i
invariant-loop-i l = (bs : List ℕ) (passed : checked bs l.literals ≡ Sound) → Shows (terms_of bs) (literals_of l.literals) begin l.initial.self → ShowsAfter bs l.literals passed l.i l.self

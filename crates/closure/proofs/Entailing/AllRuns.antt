-- Demand 3's first half, of every run by the steps that 01 allows: it ends, and at its end its classes are those that the equalities entail, so they are
-- the same in all runs.
use mathlib.Core.List.{List}
use mathlib.Core.Logic.{◌↔◌}
use Prim.Native.Nat.{ℕ}
use lib.Dec.{T}
use Rattle.tables.specs.Terms.{Term}
use Rattle.tables.specs.Parts.{LowerArguments}
use Rattle.tables.specs.declared.Literal.{Literal}
use Rattle.tables.specs.Colours.{is_in_use}
use Rattle.tables.specs.Interpretations.{Satisfiable, FinitelySatisfiable, Entailed, FinitelyEntailed}
use Rattle.tables.proofs.Colours.{SidesWithin}
use Rattle.closure.specs.Graph.{joined}
use Rattle.closure.specs.Steps.{State, Run, NoStepLeft}
use Rattle.closure.proofs.Running.Runs.{run_sound}
use Rattle.closure.proofs.Entailing.Values.{joined_value}
use Rattle.closure.proofs.Running.OwnSteps.{no_step_congruent, no_step_equality}
use Rattle.closure.proofs.Entailing.Classes as classes

module _ (ts : List Term) (ls : List Literal) (low : LowerArguments ts) (within : SidesWithin ts ls) where
  -- a run at its end has joined all that it has to
  ended : {k : ℕ} {st : State} → Run ts ls k st → NoStepLeft ts ls st → classes.Ended ts ls st
  ended {st = st} run done =
      let sound = run_sound ts ls low within run in
      record { lower = sound.lower; closed = sound.arguments; equals = no_step_equality ts ls st done; congruents = no_step_congruent ts ls st sound done }

  -- what any run joins, the equalities entail
  pub joined_so : {k : ℕ} {st : State} → Run ts ls k st → NoStepLeft ts ls st → (u v : ℕ) → T (is_in_use ts ls u) → T (is_in_use ts ls v) → T (joined st.graph u v) → Entailed ts ls u v
  joined_so {st = st} run done = classes.given_sound ts ls st within (ended run done) (λ u v j I h. joined_value ts ls low within I h st (run_sound ts ls low within run) u v j)

  module _ {k : ℕ} {st : State} (run : Run ts ls k st) (done : NoStepLeft ts ls st) where
    -- at the end of a run two terms in use are joined exactly when every interpretation of the equalities gives them one value
    pub joined_entailed : (u v : ℕ) → T (is_in_use ts ls u) → T (is_in_use ts ls v) → T (joined st.graph u v) ↔ Entailed ts ls u v
    joined_entailed = classes.joined_entailed ts ls st within (ended run done) (joined_so run done)

    -- and exactly when every finite one does
    pub joined_finitely : (u v : ℕ) → T (is_in_use ts ls u) → T (is_in_use ts ls v) → T (joined st.graph u v) ↔ FinitelyEntailed ts ls u v
    joined_finitely = classes.joined_finitely ts ls st within (ended run done) (joined_so run done)

    -- no disequality has its sides joined exactly when some interpretation, and equally some finite one, satisfies A and B
    pub apart_exact : classes.Apart ls st.graph ↔ Satisfiable ts ls
    apart_exact = classes.apart_exact ts ls st within (ended run done) (joined_so run done)

    pub apart_finitely : classes.Apart ls st.graph ↔ FinitelySatisfiable ts ls
    apart_finitely = classes.apart_finitely ts ls st within (ended run done) (joined_so run done)

  -- all runs that are carried to their end have the same classes for the terms in use
  pub runs_agree : {k j : ℕ} {st other : State} → Run ts ls k st → NoStepLeft ts ls st → Run ts ls j other → NoStepLeft ts ls other → (u v : ℕ) → T (is_in_use ts ls u) → T (is_in_use ts ls v) → T (joined st.graph u v) → T (joined other.graph u v)
  runs_agree run done run' done' u v hu hv j = (joined_entailed run' done' u v hu hv).1 ((joined_entailed run done u v hu hv).0 j)

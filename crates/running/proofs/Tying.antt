-- The arrays go on showing the state when one end is tied to the middle term.
use mathlib.Core.List.{List}
use mathlib.Core.Path.{◌≡◌, sym, subst, ◌∙◌}
use Prim.Native.Nat.{ℕ, ◌<◌}
use lib.Dec.{T, not_T}
use lib.ListN.{get_or}
use Rattle.tables.specs.Terms.{Term}
use Rattle.tables.specs.declared.Literal.{Literal}
use Rattle.tables.specs.declared.Side.{Side}
use Rattle.closure.specs.Graph.{joined}
use Rattle.closure.specs.declared.EdgeKind.TheVariants.{Derived as derived}
use Rattle.closure.specs.Steps.{State, with_edge, tied}
use Rattle.running.specs.Shown.{Shows}
use Rattle.running.specs.declared.state.State.{State as Arrays}
use Rattle.closure.proofs.Walking.Joined.{joined_label, label_joined}
use Rattle.running.proofs.Showing.{shown_label}
use Rattle.closure.proofs.Running.EdgesAndSteps.{tied_same, tied_new}

module _ (ts : List Term) (ls : List Literal) (st : State) (s : Arrays) (shows : Shows ts ls st s) (u m : ℕ) (small : u < 511) (m-small : m < 511) where
  -- terms of one label are joined
  pub same_joined : get_or s.labels u 0 ≡ get_or s.labels m 0 → T (joined st.graph u m)
  same_joined e = label_joined st.graph u m (sym (shown_label ts ls st s shows u small) ∙ e ∙ shown_label ts ls st s shows m m-small)

  -- and others are not
  pub joined_same : T (joined st.graph u m) → get_or s.labels u 0 ≡ get_or s.labels m 0
  joined_same j = shown_label ts ls st s shows u small ∙ joined_label st.graph u m j ∙ sym (shown_label ts ls st s shows m m-small)

  -- where they are joined nothing is done
  pub shows_joined : (X : Side) → get_or s.labels u 0 ≡ get_or s.labels m 0 → Shows ts ls (tied st u m X) s
  shows_joined X e = subst (λ (z : State). Shows ts ls z s) (sym (tied_same st u m X (same_joined e))) shows

  -- else there is one edge more
  pub shows_tied : (X : Side) (r : Arrays) → (get_or s.labels u 0 ≡ get_or s.labels m 0 → ⊥) → Shows ts ls (with_edge st u m X derived) r → Shows ts ls (tied st u m X) r
  shows_tied X r e h = subst (λ (z : State). Shows ts ls z r) (sym (tied_new st u m X (not_T (joined st.graph u m) (λ j. e (joined_same j))))) h

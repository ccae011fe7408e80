-- Each step makes an edge, and one more for each term that it adds; what is joined stays joined.
use mathlib.Core.Bool.{Bool, cond, not}
use mathlib.Core.List.{List, [], ◌∷◌}
use mathlib.Core.Logic.{◌⊎◌, inl, inr}
use mathlib.Core.Path.{◌≡◌, refl, sym, ap, subst, ◌∙◌}
use Prim.Native.Nat.{ℕ, suc, ◌+◌, ◌≤◌, ◌<◌}
use native.Mathlib.Nat.{le_refl}
use native.Mathlib.Omega.{arith}
use lib.Dec.{T, T_not, not_T}
use lib.ListN.{length, length-append}
use Rattle.tables.specs.Terms.{Term, term_at}
use Rattle.tables.specs.Parts.{LowerArguments}
use Rattle.tables.specs.declared.Literal.{Literal}
use Rattle.tables.specs.declared.Side.{Side}
use Rattle.tables.specs.declared.Side.TheVariants.{A, B}
use Rattle.tables.proofs.Words.{by_test, passes, fails, passed, failed}
use Rattle.tables.proofs.Colours.{SidesWithin}
use Rattle.closure.specs.Graph.{Edge, basic, derived, Graph, joined}
use Rattle.closure.specs.Steps.{State, table_of, vertex, with_edge, middle_term, Placed, placed, tied, tied_both, with_middle, Step, basic_step, derived_step, middle_step, Run, start, next}
use Rattle.closure.proofs.Walking.Joined.{joined_sym, joined_trans, joined_more, joined_nothing, joined_cases}
use Rattle.closure.proofs.Walking.Invariant.{Each}
use Rattle.closure.proofs.Running.Vertices.{EndsAmong, vertex_within}
use Rattle.closure.proofs.Running.States.{SoundState, tied_either}
use Rattle.closure.proofs.Running.MiddleStep.{with_term, placed_either}
use Rattle.closure.proofs.Running.Runs.{run_sound}

-- a number at the end of no edge is joined to itself alone
pub fresh_alone : (p : ℕ → Bool) (n : ℕ) → (T (p n) → ⊥) → (G : Graph) → Each (EndsAmong p) G → (u : ℕ) → T (joined G u n) → u ≡ n
fresh_alone p n no-vertex [] each u j = joined_nothing u n j
fresh_alone p n no-vertex (e ∷ G) each u j = go (λ w k. fresh_alone p n no-vertex G each.1 w k) (joined_cases e G u n j)
  where
    go : ((w : ℕ) → T (joined G w n) → w ≡ n) → T (joined G u n) ⊎ ((T (joined G u e.left) × T (joined G e.right n)) ⊎ (T (joined G u e.right) × T (joined G e.left n))) → u ≡ n
    go f (inl k) = f u k
    go f (inr (inl k)) = absurd (no-vertex (subst (λ (x : ℕ). T (p x)) (f e.right k.1) each.0.1))
    go f (inr (inr k)) = absurd (no-vertex (subst (λ (x : ℕ). T (p x)) (f e.left k.1) each.0.0))

-- ---- tying

module _ (st : State) (s m : ℕ) (X : Side) where
  -- what is joined to m already gets no edge
  pub tied_same : T (joined st.graph s m) → tied st s m X ≡ st
  unfolding tied
  tied_same j = ap (λ (b : Bool). cond b st (with_edge st s m X derived)) (passed (joined st.graph s m) j)

  -- what is not gets one
  pub tied_new : T (not (joined st.graph s m)) → tied st s m X ≡ with_edge st s m X derived
  unfolding tied
  tied_new n = ap (λ (b : Bool). cond b st (with_edge st s m X derived)) (failed (joined st.graph s m) n)

  -- no term is added
  pub tied_added : (tied st s m X).added ≡ st.added
  tied_added = tied_either (λ z. z.added ≡ st.added) st s m X (λ j. refl) (λ n. refl)

  -- no edge is lost
  pub tied_no_fewer : length st.graph ≤ length (tied st s m X).graph
  tied_no_fewer = tied_either (λ z. length st.graph ≤ length z.graph) st s m X (λ j. le_refl (length st.graph)) (λ n. omega arith)

  -- what is joined stays joined
  pub tied_stays : (u v : ℕ) → T (joined st.graph u v) → T (joined (tied st s m X).graph u v)
  tied_stays u v h = tied_either (λ z. T (joined z.graph u v)) st s m X (λ j. h) (λ n. joined_more (record { left = s; right = m; colour = X; kind = derived }) st.graph u v h)

-- ---- the middle step

-- where the middle term was a vertex, one edge at least is made between it and unjoined ends
old_middle_edges : (st : State) (s t m : ℕ) → T (not (joined st.graph s t)) → suc (length st.graph) ≤ length (tied (tied st s m A) t m B).graph
old_middle_edges st s t m n =
    by_test (joined st.graph s m)
    (λ q. let j = passes (joined st.graph s m) q in
    let k : T (not (joined st.graph t m)) = unjoined j in
    subst (λ z. suc (length st.graph) ≤ length (tied z t m B).graph) (sym (tied_same st s m A j)) (subst (λ z. suc (length st.graph) ≤ length z.graph) (sym (tied_new st t m B k)) (le_refl (suc (length st.graph)))))
    (λ q. omega (arith, ap (λ z. length z.graph) (tied_new st s m A (fails (joined st.graph s m) q)), tied_no_fewer (tied st s m A) t m B))
  where
    unjoined : T (joined st.graph s m) → T (not (joined st.graph t m))
    unjoined j = not_T (joined st.graph t m) (λ k. T_not (joined st.graph s t) n (joined_trans st.graph s m t j (joined_sym st.graph t m k)))

-- where it is new, two are made
new_middle_edges : (st : State) (s t m : ℕ) → ((u : ℕ) → T (joined st.graph u m) → u ≡ m) → s < m → t < m → T (not (joined st.graph s t)) → length (tied (tied st s m A) t m B).graph ≡ suc (suc (length st.graph))
new_middle_edges st s t m alone hs ht n = ap (λ z. length (tied z t m B).graph) (tied_new st s m A (apart s hs)) ∙ ap (λ z. length z.graph) (tied_new (with_edge st s m A derived) t m B (not_T (joined (e ∷ st.graph) t m) (λ k. impossible (joined_cases e st.graph t m k))))
  where
    e : Edge
    e = record { left = s; right = m; colour = A; kind = derived }

    never : (u : ℕ) → u < m → T (joined st.graph u m) → ⊥
    never u h j = omega (arith, alone u j)

    apart : (u : ℕ) → u < m → T (not (joined st.graph u m))
    apart u h = not_T (joined st.graph u m) (never u h)

    impossible : T (joined st.graph t m) ⊎ ((T (joined st.graph t s) × T (joined st.graph m m)) ⊎ (T (joined st.graph t m) × T (joined st.graph s m))) → ⊥
    impossible (inl k) = never t ht k
    impossible (inr (inl k)) = T_not (joined st.graph s t) n (joined_sym st.graph t s k.0)
    impossible (inr (inr k)) = never t ht k.0

-- ---- steps and runs

module _ (ts : List Term) (ls : List Literal) where
  -- a step makes an edge, and one more for each term that it adds
  abbrev Gains : State → State → Type 0
  Gains st after = suc (length after.added + length st.graph) ≤ length after.graph + length st.added

  -- so does a middle step
  middle_gains : (st : State) → SoundState ts ls st → (s t : ℕ) → T (vertex ts ls st s) → T (vertex ts ls st t) → T (not (joined st.graph s t)) → (m : Term) → Gains st (tied_both (placed ts ls st m) s t)
  unfolding tied_both
  middle_gains st r s t vs vt n m = placed_either ts ls st m (λ p. Gains st (tied (tied p.state s p.number A) t p.number B)) old new
    where
      old : (v : ℕ) → T (vertex ts ls st v) → term_at (table_of ts st) v ≡ m → Gains st (tied (tied st s v A) t v B)
      old v h e = omega (arith, ap length (tied_added (tied st s v A) t v B ∙ tied_added st s v A), old_middle_edges st s t v n)

      new : Gains st (tied (tied (with_term st m) s (length (table_of ts st)) A) t (length (table_of ts st)) B)
      new =
          let k = length (table_of ts st) in
          let alone = fresh_alone (vertex ts ls st) k (λ h. omega (arith, vertex_within ts ls st k h)) st.graph r.ends in
          omega (arith, ap length (tied_added (tied (with_term st m) s k A) t k B ∙ tied_added (with_term st m) s k A), length-append st.added (m ∷ []), new_middle_edges (with_term st m) s t k alone (vertex_within ts ls st s vs) (vertex_within ts ls st t vt) n)

  -- a step makes an edge, and one more for each term that it adds
  pub step_gains : (st : State) {after : State} → SoundState ts ls st → Step ts ls st after → suc (length after.added + length st.graph) ≤ length after.graph + length st.added
  unfolding with_middle
  step_gains st r (basic_step l s t m k h n) = omega arith
  step_gains st r (derived_step s t X vs vt n c e) = omega arith
  step_gains st r (middle_step s t chosen vs vt n c oa ob ch) = middle_gains st r s t vs vt n (middle_term (table_of ts st) s chosen)

  -- a run has at least as many edges as it has steps and added terms
  pub edges_and_steps : LowerArguments ts → SidesWithin ts ls → {k : ℕ} {st : State} → Run ts ls k st → k + length st.added ≤ length st.graph
  edges_and_steps low within start = omega arith
  edges_and_steps low within (next {st = st} run step) = omega (arith, edges_and_steps low within run, step_gains st (run_sound ts ls low within run) step)

  -- to place a term makes no edge
  pub placed_graph : (st : State) (m : Term) → (placed ts ls st m).state.graph ≡ st.graph
  placed_graph st m = placed_either ts ls st m (λ p. p.state.graph ≡ st.graph) (λ v h e. refl) refl

  -- what is joined stays joined when both ends are tied
  both_stays : (p : Placed) (s t u v : ℕ) → T (joined p.state.graph u v) → T (joined (tied_both p s t).graph u v)
  unfolding tied_both
  both_stays p s t u v j = tied_stays (tied p.state s p.number A) t p.number B u v (tied_stays p.state s p.number A u v j)

  -- what is joined stays joined under every step
  pub step_joined : (st : State) {after : State} → Step ts ls st after → (u v : ℕ) → T (joined st.graph u v) → T (joined after.graph u v)
  unfolding with_middle
  step_joined st (basic_step l s t m k h n) u v j = joined_more (record { left = s; right = t; colour = l.side; kind = basic }) st.graph u v j
  step_joined st (derived_step s t X vs vt n c e) u v j = joined_more (record { left = s; right = t; colour = X; kind = derived }) st.graph u v j
  step_joined st (middle_step s t chosen vs vt n c oa ob ch) u v j = both_stays (placed ts ls st (middle_term (table_of ts st) s chosen)) s t u v (subst (λ (G : Graph). T (joined G u v)) (sym (placed_graph st (middle_term (table_of ts st) s chosen))) j)

  -- a step adds one term at most
  pub step_adds : (st : State) {after : State} → Step ts ls st after → length after.added ≤ suc (length st.added)
  unfolding with_middle tied_both
  step_adds st (basic_step l s t m k h n) = omega arith
  step_adds st (derived_step s t X vs vt n c e) = omega arith
  step_adds st (middle_step s t chosen vs vt n c oa ob ch) =
      let m = middle_term (table_of ts st) s chosen in
      let p = placed ts ls st m in
      let one : length p.state.added ≤ suc (length st.added) = placed_either ts ls st m (λ p. length p.state.added ≤ suc (length st.added)) (λ v h e. omega arith) (omega (arith, length-append st.added (m ∷ []))) in
      omega (arith, one, ap length (tied_added (tied p.state s p.number A) t p.number B ∙ tied_added p.state s p.number A))

  -- so a run adds no more terms than it has steps
  pub run_adds : {k : ℕ} {st : State} → Run ts ls k st → length st.added ≤ k
  run_adds start = le_refl 0
  run_adds (next {st = st} run step) = omega (arith, run_adds run, step_adds st step)

-- The library's own run is a run; it never stops at a middle term that cannot be made, and at its end no step is left.
use Rattle.std.proofs.Common.{Option, Some, None}
use Rattle.std.proofs.lemmas.Option.{none-some}
use mathlib.Core.Bool.{not, ◌&&◌}
use mathlib.Core.List.{List, Memᴰ}
use mathlib.Core.Logic.{◌⊎◌, inl, inr, ⊎_elim}
use mathlib.Core.Path.{◌≡◌, refl, sym, ap, subst, subst₂, ◌∙◌}
use Prim.Native.Nat.{ℕ, zero, suc, ◌+◌, ◌≤◌, ◌<◌}
use native.Mathlib.Omega.{arith}
use lib.Dec.{T, T_not, ltb, ltb→lt, nltb→le}
use lib.ListN.{length}
use Rattle.tables.specs.Words.{Pair, pair, pairs_below}
use Rattle.tables.specs.Terms.{Term}
use Rattle.tables.specs.Parts.{LowerArguments}
use Rattle.tables.specs.declared.Literal.{Literal}
use Rattle.tables.specs.declared.Kind.TheVariants.{Equal}
use Rattle.tables.specs.Colours.{is_in_use}
use Rattle.tables.proofs.Words.{by_test, passes, fails, and_left, and_right, and_both, first_of_some, first_of_none, below_or_is, pairs_below_mem, mem_pairs_below}
use Rattle.tables.proofs.Colours.{SidesWithin, in_use_within}
use Rattle.closure.specs.Graph.{joined}
use Rattle.closure.specs.Steps.{State, begin, table_of, vertex, congruent, Step, basic_step, derived_step, middle_step, Run, start, next, NoStepLeft}
use Rattle.closure.specs.OwnRun.{basic_steps, derivable, first_pair, derived_on, turns_at, own_run}
use Rattle.closure.proofs.Walking.Joined.{joined_self, joined_sym, joined_trans}
use Rattle.closure.proofs.Running.Congruent.{congruent_sym, congruent_trans}
use Rattle.closure.proofs.Running.States.{in_use_vertex, SoundState, Known}
use Rattle.closure.proofs.Running.Runs.{run_sound, run_known}
use Rattle.closure.proofs.Running.EdgesAndSteps.{step_joined}
use Rattle.closure.proofs.Running.OwnSteps.{must_pass, basic_steps_run, basic_steps_join, own_step}

-- ---- the turns

-- nothing is done where no pair is found
pub turns_none : (find : State → Option Pair) (step : State → Pair → Option State) (k : ℕ) (st : State) → find st ≡ None → turns_at find step (suc k) st ≡ Some st
unfolding turns_at
turns_none find step k st q = rw (q, turns_at)

-- nothing is left where the step cannot be taken
pub turns_stuck : (find : State → Option Pair) (step : State → Pair → Option State) (k : ℕ) (st : State) (p : Pair) → find st ≡ Some p → step st p ≡ None → turns_at find step (suc k) st ≡ None
unfolding turns_at
turns_stuck find step k st p q r =
    let first : turns_at find step (suc k) st ≡ elim (step st p) [ None ↦ None | Some z ↦ turns_at find step k z ] = rw (q, turns_at) in
    first ∙ ap {B = Option State} (λ (o : Option State). elim o [ None ↦ None | Some z ↦ turns_at find step k z ]) r

-- a turn is one step
pub turns_some : (find : State → Option Pair) (step : State → Pair → Option State) (k : ℕ) (st after : State) (p : Pair) → find st ≡ Some p → step st p ≡ Some after → turns_at find step (suc k) st ≡ turns_at find step k after
unfolding turns_at
turns_some find step k st after p q r =
    let first : turns_at find step (suc k) st ≡ elim (step st p) [ None ↦ None | Some z ↦ turns_at find step k z ] = rw (q, turns_at) in
    first ∙ ap {B = Option State} (λ (o : Option State). elim o [ None ↦ None | Some z ↦ turns_at find step k z ]) r

-- what the turns come to, from a state after j steps with k turns left
pub record Turned (ts : List Term) (ls : List Literal) (j k : ℕ) (st after : State) : Type 0 where
  pub found : turns_at (first_pair ts ls) (derived_on ts ls) k st ≡ Some after
  pub steps : ℕ
  pub run : Run ts ls steps after
  pub ended : (first_pair ts ls after ≡ None) ⊎ (steps ≡ j + k)
  pub stays : (u v : ℕ) → T (joined st.graph u v) → T (joined after.graph u v)

module _ (ts : List Term) (ls : List Literal) (low : LowerArguments ts) (within : SidesWithin ts ls) where
  -- a pair that can be derived: unjoined congruent vertices
  pub derivable_parts : (st : State) (p : Pair) → T (derivable ts ls st p) → T (vertex ts ls st p.left) × T (vertex ts ls st p.right) × T (not (joined st.graph p.left p.right)) × T (congruent (table_of ts st) st.graph p.left p.right)
  unfolding derivable
  derivable_parts st p h =
      let s = p.left in
      let t = p.right in
      let c = congruent (table_of ts st) st.graph s t in
      let u = is_in_use ts ls s && is_in_use ts ls t in
      let cu = and_left (c && u) (not (joined st.graph s t)) h in
      let used = and_right c u cu in
      (in_use_vertex ts ls low within st s (and_left (is_in_use ts ls s) (is_in_use ts ls t) used), in_use_vertex ts ls low within st t (and_right (is_in_use ts ls s) (is_in_use ts ls t) used), and_right (c && u) (not (joined st.graph s t)) h, and_left c u cu)

  -- the derived step on the first pair is a step
  pub first_pair_step : (st : State) → SoundState ts ls st → (p : Pair) → first_pair ts ls st ≡ Some p → (after : State) × (derived_on ts ls st p ≡ Some after) × Step ts ls st after
  unfolding first_pair
  first_pair_step st r p q =
      let w = derivable_parts st p (first_of_some (derivable ts ls st) (pairs_below (length ts)) p q).1 in
      own_step ts ls st r p.left p.right w.0 w.1 w.2 w.3

  -- the turns are steps of a run, and they come to an end or are all used
  pub turns : (k j : ℕ) (st : State) → Run ts ls j st → (after : State) × Turned ts ls j k st after
  unfolding turns_at
  turns zero j st run = (st, record { found = refl; steps = j; run = run; ended = inr (omega arith); stays = λ u v h. h })
  turns (suc k) j st run = go (first_pair ts ls st) refl (λ i z w. turns k i z w)
    where
      go : (o : Option Pair) → first_pair ts ls st ≡ o → ((i : ℕ) (z : State) → Run ts ls i z → (after : State) × Turned ts ls i k z after) → (after : State) × Turned ts ls j (suc k) st after
      go None q f = (st, record { found = turns_none (first_pair ts ls) (derived_on ts ls) k st q; steps = j; run = run; ended = inl q; stays = λ u v h. h })
      go (Some p) q f =
          let w = first_pair_step st (run_sound ts ls low within run) p q in
          let z = f (suc j) w.0 (next run w.2) in
          let x = z.1 in
          (z.0, record { found = turns_some (first_pair ts ls) (derived_on ts ls) k st w.0 p q w.1 ∙ x.found; steps = x.steps; run = x.run; ended = ⊎_elim (λ e. inl e) (λ e. inr (omega (arith, e))) x.ended; stays = λ u v h. x.stays u v (step_joined ts ls st w.2 u v h) })

-- ---- no step is left

module _ (ts : List Term) (ls : List Literal) (low : LowerArguments ts) (within : SidesWithin ts ls) (st : State) (no_pair : first_pair ts ls st ≡ None) where
  -- where no pair is found, congruent given terms in use are joined: the lower one left
  ordered_joined : (s t : ℕ) → s < t → T (is_in_use ts ls s) → T (is_in_use ts ls t) → T (congruent (table_of ts st) st.graph s t) → T (joined st.graph s t)
  unfolding first_pair derivable
  ordered_joined s t h us ut c =
      let c' = congruent (table_of ts st) st.graph s t in
      let used = is_in_use ts ls s && is_in_use ts ls t in
      must_pass (joined st.graph s t)
      (λ n. first_of_none (derivable ts ls st) no_pair (mem_pairs_below (length ts) (pair s t) h (in_use_within ts ls low within t ut)) (and_both (c' && used) (not (joined st.graph s t)) (and_both c' used c (and_both (is_in_use ts ls s) (is_in_use ts ls t) us ut)) n))

  -- and in either order
  pub given_joined : (s t : ℕ) → T (is_in_use ts ls s) → T (is_in_use ts ls t) → T (congruent (table_of ts st) st.graph s t) → T (joined st.graph s t)
  given_joined s t us ut c =
      by_test (ltb s t) (λ q. ordered_joined s t (ltb→lt s t (passes (ltb s t) q)) us ut c)
      (λ q. ⊎_elim
      (λ h. joined_sym st.graph t s (ordered_joined t s h ut us (congruent_sym (table_of ts st) st.graph s t c)))
      (λ e. subst (λ (x : ℕ). T (joined st.graph s x)) (sym e) (joined_self st.graph s))
      (below_or_is t s (omega (arith, nltb→le s t (fails (ltb s t) q)))))

  -- so congruent vertices are, added ones included, where given terms in use stand for them
  pub vertices_joined : ((v : ℕ) → T (vertex ts ls st v) → Known ts ls st v) → (s t : ℕ) → T (vertex ts ls st s) → T (vertex ts ls st t) → T (congruent (table_of ts st) st.graph s t) → T (joined st.graph s t)
  vertices_joined known s t vs vt c =
      let G = st.graph in
      let table = table_of ts st in
      let a = known s vs in
      let b = known t vt in
      let j = given_joined a.0 b.0 a.1 b.1 (congruent_trans table G a.0 s b.0 a.3 (congruent_trans table G s t b.0 c (congruent_sym table G b.0 t b.3))) in
      joined_trans G s a.0 t (joined_sym G a.0 s a.2) (joined_trans G a.0 b.0 t j b.2)

  -- and no step is left, where the sides of every equality are joined
  pub no_step_left : ((v : ℕ) → T (vertex ts ls st v) → Known ts ls st v) → ((l : Literal) → Memᴰ l ls → l.kind ≡ Equal → T (joined st.graph l.left l.right)) → NoStepLeft ts ls st
  no_step_left known equalities after (basic_step l s t m k h n) = T_not (joined st.graph s t) n (⊎_elim (λ q. sides q.0 q.1) (λ q. joined_sym st.graph t s (sides q.0 q.1)) h)
    where
      sides : {x y : ℕ} → l.left ≡ x → l.right ≡ y → T (joined st.graph x y)
      sides p q = subst₂ (λ (x y : ℕ). T (joined st.graph x y)) p q (equalities l m k)
  no_step_left known equalities after (derived_step s t X vs vt n c e) = T_not (joined st.graph s t) n (vertices_joined known s t vs vt c)
  no_step_left known equalities after (middle_step s t chosen vs vt n c oa ob ch) = T_not (joined st.graph s t) n (vertices_joined known s t vs vt c)

-- ---- the whole run

-- what the library's own run comes to
pub record OwnEnd (ts : List Term) (ls : List Literal) (st : State) : Type 0 where
  pub found : own_run ts ls ≡ Some st
  pub steps : ℕ
  pub run : Run ts ls steps st
  pub ended : (first_pair ts ls st ≡ None) ⊎ (length ts ≤ steps)
  pub equalities : (l : Literal) → Memᴰ l ls → l.kind ≡ Equal → T (joined st.graph l.left l.right)

-- a run that has a step has fewer steps than there are terms
abbrev pub FewSteps : List Term → List Literal → Type 0
FewSteps ts ls = (k : ℕ) (st : State) → Run ts ls k st → 0 < k → k < length ts

module _ (ts : List Term) (ls : List Literal) (low : LowerArguments ts) (within : SidesWithin ts ls) where
  -- the own run comes to a state
  pub own_run_there : (st : State) × OwnEnd ts ls st
  unfolding own_run
  own_run_there =
      let b = basic_steps_run ts ls ls (λ l m. m) zero begin start in
      let t = turns ts ls low within (length ts) b.0 (basic_steps ls begin) b.1 in
      let x = t.1 in
      (t.0, record { found = x.found; steps = x.steps; run = x.run; ended = ⊎_elim (λ e. inl e) (λ e. inr (omega (arith, e))) x.ended; equalities = λ l m k. x.stays l.left l.right (basic_steps_join ls begin l m k) })

  -- every state that it comes to is that one
  pub own_end : (st : State) → own_run ts ls ≡ Some st → OwnEnd ts ls st
  own_end st q =
      let w = own_run_there in
      let e : w.0 ≡ st = some_same w.0 (sym w.1.found ∙ q) in
      subst (OwnEnd ts ls) e w.1
    where
      some_same : (z : State) → Some z ≡ Some st → z ≡ st
      some_same z h = cc

  -- the library's own run is a run
  pub own_run_is : (st : State) → own_run ts ls ≡ Some st → (k : ℕ) × Run ts ls k st
  own_run_is st q = let w = own_end st q in (w.steps, w.run)

  -- "a middle term is needed and a parent path has no shared term" never happens
  pub own_run_never_stuck : own_run ts ls ≡ None → ⊥
  own_run_never_stuck q = let w = own_run_there in none-some w.0 (sym q ∙ w.1.found)

  -- the turns are enough: at the end no pair is found, and the sides of every equality are joined
  pub own_run_ends : FewSteps ts ls → (st : State) → own_run ts ls ≡ Some st → (first_pair ts ls st ≡ None) × ((l : Literal) → Memᴰ l ls → l.kind ≡ Equal → T (joined st.graph l.left l.right))
  unfolding first_pair
  own_run_ends few st q = let w = own_end st q in (⊎_elim (λ e. e) (λ h. none_found w h (first_pair ts ls st) refl) w.ended, w.equalities)
    where
      none_found : (w : OwnEnd ts ls st) → length ts ≤ w.steps → (o : Option Pair) → first_pair ts ls st ≡ o → first_pair ts ls st ≡ None
      none_found w h None e = e
      none_found w h (Some p) e =
          let m = pairs_below_mem (length ts) p (first_of_some (derivable ts ls st) (pairs_below (length ts)) p e).0 in
          let z : ⊥ = omega (arith, m.1, h, few w.steps st w.run (omega (arith, m.1, h))) in
          absurd z

  -- at its end no step is left, between any vertices
  pub own_run_no_step_left : FewSteps ts ls → (st : State) → own_run ts ls ≡ Some st → NoStepLeft ts ls st
  own_run_no_step_left few st q =
      let e = own_run_ends few st q in
      no_step_left ts ls low within st e.0 (λ v h. run_known ts ls low within (own_run_is st q).1 v h) e.1

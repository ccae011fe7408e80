-- "With any term in use a run has fewer steps than there are such terms": so the turns of the library's own run are enough.
use Rattle.std.proofs.Common.{Some}
use mathlib.Core.Bool.{Bool, true, false, cond}
use mathlib.Core.List.{List, [], ◌∷◌, ◌++◌, Memᴰ}
use mathlib.Core.Logic.{⊎_elim}
use mathlib.Core.Path.{◌≡◌, refl, sym, ap}
use Prim.Native.Nat.{ℕ, zero, suc, ◌+◌, ◌≤◌, ◌<◌}
use native.Mathlib.Nat.{le_refl}
use native.Mathlib.Omega.{arith}
use lib.Dec.{T}
use lib.ListN.{length, length-append}
use Rattle.tables.specs.Words.{below, keep}
use Rattle.tables.specs.Terms.{Term}
use Rattle.tables.specs.Parts.{LowerArguments}
use Rattle.tables.specs.declared.Literal.{Literal}
use Rattle.tables.specs.Colours.{is_in_use}
use Rattle.tables.proofs.Words.{mem_keep, below_mem, mem_below, below_or_is, length_below}
use Rattle.tables.proofs.Colours.{SidesWithin}
use Rattle.closure.specs.Graph.{Graph}
use Rattle.closure.specs.Steps.{State, table_of, vertex, Run, NoStepLeft}
use Rattle.closure.specs.OwnRun.{own_run}
use Rattle.closure.proofs.Walking.Invariant.{Each}
use Rattle.closure.proofs.Walking.Count.{once_keep, once_below, EndsIn, fewer_edges}
use Rattle.closure.proofs.Walking.ParentPaths.{each_map, sound_forest}
use Rattle.closure.proofs.Running.Vertices.{EndsAmong, vertex_cases, vertex_within}
use Rattle.closure.proofs.Running.States.{SoundState}
use Rattle.closure.proofs.Running.Runs.{run_sound}
use Rattle.closure.proofs.Running.EdgesAndSteps.{edges_and_steps, run_adds}
use Rattle.closure.proofs.Running.OwnRun.{FewSteps, own_run_no_step_left}

-- ---- how many numbers pass a test

-- a list with a member has a length
member_length : {x : ℕ} {xs : List ℕ} → Memᴰ x xs → 0 < length xs
member_length (Memᴰ.head e) = omega arith
member_length (Memᴰ.tail m) = omega arith

-- fewer members pass a test that asks more
keep_fewer : (p q : ℕ → Bool) (xs : List ℕ) → ((x : ℕ) → Memᴰ x xs → T (p x) → T (q x)) → length (keep p xs) ≤ length (keep q xs)
unfolding keep
keep_fewer p q [] f = le_refl 0
keep_fewer p q (x ∷ xs) f = go (p x) (q x) (f x (Memᴰ.head refl)) (keep_fewer p q xs (λ y m. f y (Memᴰ.tail m)))
  where
    go : (a b : Bool) → (T a → T b) → length (keep p xs) ≤ length (keep q xs) → length (cond a (x ∷ keep p xs) (keep p xs)) ≤ length (cond b (x ∷ keep q xs) (keep q xs))
    go true true g h = omega arith
    go true false g h = absurd (g tt)
    go false true g h = omega arith
    go false false g h = h

-- no more pass than there are
keep_length : (p : ℕ → Bool) (xs : List ℕ) → length (keep p xs) ≤ length xs
unfolding keep
keep_length p [] = le_refl 0
keep_length p (x ∷ xs) = go (p x) (keep_length p xs)
  where
    go : (a : Bool) → length (keep p xs) ≤ length xs → length (cond a (x ∷ keep p xs) (keep p xs)) ≤ length (x ∷ xs)
    go true h = omega arith
    go false h = omega arith

-- what passes of two lists passes of one or of the other
keep_append : (p : ℕ → Bool) (xs ys : List ℕ) → keep p (xs ++ ys) ≡ keep p xs ++ keep p ys
unfolding keep
keep_append p [] ys = refl
keep_append p (x ∷ xs) ys = go (p x) (keep_append p xs ys)
  where
    go : (a : Bool) → keep p (xs ++ ys) ≡ keep p xs ++ keep p ys → cond a (x ∷ keep p (xs ++ ys)) (keep p (xs ++ ys)) ≡ cond a (x ∷ keep p xs) (keep p xs) ++ keep p ys
    go true e = ap (λ (l : List ℕ). x ∷ l) e
    go false e = e

-- of the numbers below k no more pass than pass below n, and those from n on
keep_below : (p : ℕ → Bool) (n k : ℕ) → n ≤ k → length (keep p (below k)) + n ≤ length (keep p (below n)) + k
unfolding below
keep_below p n zero h = omega (arith, ap (λ (m : ℕ). length (keep p (below m))) (sym (nothing_lower h)))
  where
    nothing_lower : n ≤ 0 → n ≡ 0
    nothing_lower h = omega arith
keep_below p n (suc k) h = ⊎_elim (λ l. omega (arith, keep_below p n k (omega (arith, l)), ap length (keep_append p (below k) (k ∷ [])), length-append (keep p (below k)) (keep p (k ∷ [])), keep_length p (k ∷ []))) (λ e. omega (arith, e, ap (λ (m : ℕ). length (keep p (below m))) e)) (below_or_is n (suc k) (omega arith))

-- ---- the vertices, counted

-- how many given terms are in use
abbrev pub used_count : List Term → List Literal → ℕ
used_count ts ls = length (keep (is_in_use ts ls) (below (length ts)))

-- the vertices in a list
abbrev pub vertex_list : List Term → List Literal → State → List ℕ
vertex_list ts ls st = keep (vertex ts ls st) (below (length (table_of ts st)))

module _ (ts : List Term) (ls : List Literal) (st : State) where
  -- each vertex stands in it
  pub vertex_listed : (v : ℕ) → T (vertex ts ls st v) → Memᴰ v (vertex_list ts ls st)
  vertex_listed v h = mem_keep (vertex ts ls st) (mem_below (length (table_of ts st)) v (vertex_within ts ls st v h)) h

  -- they are no more than the terms in use and the added ones
  pub vertices_few : length (vertex_list ts ls st) ≤ used_count ts ls + length st.added
  vertices_few = omega (arith, keep_below (vertex ts ls st) (length ts) (length (table_of ts st)) (omega (arith, length-append ts st.added)), length-append ts st.added, keep_fewer (vertex ts ls st) (is_in_use ts ls) (below (length ts)) used)
    where
      used : (x : ℕ) → Memᴰ x (below (length ts)) → T (vertex ts ls st x) → T (is_in_use ts ls x)
      used x m h = ⊎_elim (λ c. c.1) (λ c. let z : ⊥ = omega (arith, c.0, below_mem (length ts) m) in absurd z) (vertex_cases ts ls st x h)

  -- so edges are fewer than these, where there is a vertex
  pub edges_few : SoundState ts ls st → (v : ℕ) → T (vertex ts ls st v) → length st.graph < used_count ts ls + length st.added
  edges_few r v h =
      let vs = vertex_list ts ls st in
      let ends : EndsIn vs st.graph = each_map (EndsAmong (vertex ts ls st)) (λ G e. Memᴰ e.left vs × Memᴰ e.right vs) (λ G e p. (vertex_listed e.left p.0, vertex_listed e.right p.1)) st.graph r.ends in
      let fewer = fewer_edges st.graph (sound_forest ts ls (table_of ts st) st.graph r.edges) vs (once_keep (vertex ts ls st) (once_below (length (table_of ts st)))) ends (member_length (vertex_listed v h)) in
      omega (arith, fewer, vertices_few)

module _ (ts : List Term) (ls : List Literal) (low : LowerArguments ts) (within : SidesWithin ts ls) where
  -- "With any term in use a run has fewer steps than there are such terms": so every run does that has a step
  pub fewer_steps : {k : ℕ} {st : State} → Run ts ls k st → 0 < k → k < used_count ts ls
  fewer_steps {k} {st} run h = go st.graph refl (run_sound ts ls low within run).ends
    where
      go : (G : Graph) → st.graph ≡ G → Each (EndsAmong (vertex ts ls st)) G → k < used_count ts ls
      go [] e ends = absurd (let z : ⊥ = omega (arith, edges_and_steps ts ls low within run, ap length e) in z)
      go (x ∷ G) e ends = omega (arith, edges_few ts ls st (run_sound ts ls low within run) x.left ends.0.0, edges_and_steps ts ls low within run)

  -- the terms in use are no more than the terms
  pub used_given : used_count ts ls ≤ length ts
  used_given = omega (arith, keep_length (is_in_use ts ls) (below (length ts)), length_below (length ts))

  -- so a run with a step has fewer steps than there are terms
  pub few_steps : FewSteps ts ls
  few_steps k st run h = omega (arith, fewer_steps run h, used_given)

  -- "so at most 255 terms are added"
  pub few_added : length ts ≤ 256 → {k : ℕ} {st : State} → Run ts ls k st → length st.added ≤ 255
  few_added h {k} {st} run = go k (run_adds ts ls run) (few_steps k st run)
    where
      go : (j : ℕ) → length st.added ≤ j → (0 < j → j < length ts) → length st.added ≤ 255
      go zero a f = omega arith
      go (suc j) a f = omega (arith, f (omega arith))

  -- and at most 510 edges are made
  pub few_edges : length ts ≤ 256 → {k : ℕ} {st : State} → Run ts ls k st → length st.graph ≤ 510
  few_edges h {k} {st} run = go st.graph refl (run_sound ts ls low within run).ends
    where
      go : (G : Graph) → st.graph ≡ G → Each (EndsAmong (vertex ts ls st)) G → length st.graph ≤ 510
      go [] e ends = omega (arith, ap length e)
      go (x ∷ G) e ends = omega (arith, edges_few ts ls st (run_sound ts ls low within run) x.left ends.0.0, few_added h run, used_given)

  -- at the end of the library's own run no step is left
  pub own_run_complete : (st : State) → own_run ts ls ≡ Some st → NoStepLeft ts ls st
  own_run_complete st q = own_run_no_step_left ts ls low within few_steps st q

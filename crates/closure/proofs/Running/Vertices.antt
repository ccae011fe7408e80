-- Vertices, what stands on a walk over edges between vertices, and the terms chosen for a middle term.
use mathlib.Core.Bool.{Bool, true, false, cond}
use mathlib.Core.List.Memᴰ
use mathlib.Core.List.{List, ◌++◌, Memᴰ}
use mathlib.Core.Logic.{◌⊎◌, inl, inr, ⊎_elim}
use mathlib.Core.Path.{◌≡◌, refl, sym, ap, subst, ◌∙◌}
use Prim.Native.Nat.{ℕ, ◌≤◌, ◌<◌}
use native.Mathlib.Omega.{arith}
use lib.Dec.{T, ltb, ltb→lt, lt→ltb, nltb→le}
use lib.ListN.{length, length-append}
use Rattle.tables.specs.Terms.{Term}
use Rattle.tables.specs.declared.Literal.{Literal}
use Rattle.tables.specs.Colours.{is_in_use, shared}
use Rattle.tables.proofs.Words.{by_test, passes, fails, passed}
use Rattle.closure.specs.Graph.{Edge, Graph, Hop, Path, joined, path, vertices, joined_pairwise}
use Rattle.closure.specs.Walks.{HopOf, Walk, stay, hop}
use Rattle.closure.specs.Steps.{State, table_of, vertex, Chosen, chosen_none, chosen_next}
use Rattle.closure.proofs.Walking.Joined.{joined_self, joined_trans}
use Rattle.closure.proofs.Walking.Invariant.{Each}
use Rattle.closure.proofs.Walking.Walks.{hop_each, hop_joined, walk_joined, path_walk}
use Rattle.closure.proofs.Running.Congruent.{pairwise_cons, pairwise_head, pairwise_tail}

-- ---- vertices

module _ (ts : List Term) (ls : List Literal) (st : State) where
  -- a vertex is a given term in use or an added term
  pub vertex_cases : (v : ℕ) → T (vertex ts ls st v) → ((v < length ts) × T (is_in_use ts ls v)) ⊎ ((length ts ≤ v) × (v < length (table_of ts st)))
  unfolding vertex
  vertex_cases v h = go (ltb v (length ts)) refl h
    where
      go : (b : Bool) → ltb v (length ts) ≡ b → T (cond b (is_in_use ts ls v) (ltb v (length (table_of ts st)))) → ((v < length ts) × T (is_in_use ts ls v)) ⊎ ((length ts ≤ v) × (v < length (table_of ts st)))
      go true q k = inl (ltb→lt v (length ts) (passes (ltb v (length ts)) q), k)
      go false q k = inr (nltb→le v (length ts) (fails (ltb v (length ts)) q), ltb→lt v (length (table_of ts st)) k)

  -- a given term in use is a vertex
  pub used_vertex : (v : ℕ) → v < length ts → T (is_in_use ts ls v) → T (vertex ts ls st v)
  unfolding vertex
  used_vertex v h k = subst (λ (b : Bool). T (cond b (is_in_use ts ls v) (ltb v (length (table_of ts st))))) (sym (passed (ltb v (length ts)) (lt→ltb v (length ts) h))) k

  -- an added term is a vertex
  pub added_vertex : (v : ℕ) → length ts ≤ v → v < length (table_of ts st) → T (vertex ts ls st v)
  unfolding vertex
  added_vertex v h k = by_test (ltb v (length ts)) (λ q. let z : ⊥ = omega (arith, ltb→lt v (length ts) (passes (ltb v (length ts)) q)) in absurd z) (λ q. subst (λ (b : Bool). T (cond b (is_in_use ts ls v) (ltb v (length (table_of ts st))))) (sym q) (lt→ltb v (length (table_of ts st)) k))

  -- a vertex is a term of the table
  pub vertex_within : (v : ℕ) → T (vertex ts ls st v) → v < length (table_of ts st)
  vertex_within v h = ⊎_elim (λ c. omega (arith, c.0, length-append ts st.added)) (λ c. c.1) (vertex_cases v h)

-- a vertex stays one when terms are added
pub vertex_stays : (ts : List Term) (ls : List Literal) (st after : State) → length (table_of ts st) ≤ length (table_of ts after) → (v : ℕ) → T (vertex ts ls st v) → T (vertex ts ls after v)
vertex_stays ts ls st after le v h = ⊎_elim (λ c. used_vertex ts ls after v c.0 c.1) (λ c. added_vertex ts ls after v c.0 (omega (arith, c.1))) (vertex_cases ts ls st v h)

-- ---- on a walk

-- both ends of the edge pass
abbrev pub EndsAmong : (ℕ → Bool) → Graph → Edge → Type 0
EndsAmong p G e = T (p e.left) × T (p e.right)

-- a hop of a graph whose edges have such ends leads to one that passes
pub hop_to : (p : ℕ → Bool) {h : Hop} {G : Graph} → HopOf h G → Each (EndsAmong p) G → T (p h.to)
hop_to p {h} k each =
    let r = hop_each (EndsAmong p) k each in
    ⊎_elim (λ q. subst (λ (g : Hop). T (p g.to)) (sym q) r.1.1) (λ q. subst (λ (g : Hop). T (p g.to)) (sym q) r.1.0) r.2

-- so all that stands on a walk passes where its first vertex does
pub walk_among : (p : ℕ → Bool) {G : Graph} {u v : ℕ} {π : Path} → Each (EndsAmong p) G → T (p u) → Walk G u v π → (m : ℕ) → Memᴰ m (vertices u π) → T (p m)
walk_among p {u = u} each h (stay q) m (Memᴰ.head e) = subst (λ (x : ℕ). T (p x)) (sym e) h
walk_among p {u = u} each h (stay q) m (Memᴰ.tail k) = absurd (Memᴰ.not-nil k)
walk_among p {u = u} each h (hop k q w) m (Memᴰ.head e) = subst (λ (x : ℕ). T (p x)) (sym e) h
walk_among p {u = u} each h (hop k q w) m (Memᴰ.tail z) = walk_among p each (hop_to p k each) w m z

-- what stands on a walk is joined to both its ends
pub walk_between : {G : Graph} {u v : ℕ} {π : Path} → Walk G u v π → (m : ℕ) → Memᴰ m (vertices u π) → T (joined G u m) × T (joined G m v)
walk_between {G} {u} {v} (stay q) m (Memᴰ.head e) = (subst (λ (x : ℕ). T (joined G u x)) (sym e) (joined_self G u), subst (λ (x : ℕ). T (joined G m x)) (e ∙ q) (joined_self G m))
walk_between {G} {u} {v} (stay q) m (Memᴰ.tail k) = absurd (Memᴰ.not-nil k)
walk_between {G} {u} {v} (hop k q w) m (Memᴰ.head e) = (subst (λ (x : ℕ). T (joined G u x)) (sym e) (joined_self G u), subst (λ (x : ℕ). T (joined G x v)) (sym e) (walk_joined (hop k q w)))
walk_between {G} {u} {v} (hop {h = h} k q w) m (Memᴰ.tail z) =
    let r = walk_between w m z in
    (joined_trans G u h.to m (subst (λ (x : ℕ). T (joined G x h.to)) (sym q) (hop_joined k)) r.0, r.1)

-- ---- the chosen terms

module _ (ts : List Term) (ls : List Literal) (table : List Term) (G : Graph) where
  -- each chosen term is shared
  pub chosen_shared : {xs ys ms : List ℕ} → Chosen ts ls table G xs ys ms → (m : ℕ) → Memᴰ m ms → T (shared ts ls table m)
  chosen_shared chosen_none m k = absurd (Memᴰ.not-nil k)
  chosen_shared (chosen_next h on c) m (Memᴰ.head e) = subst (λ (x : ℕ). T (shared ts ls table x)) (sym e) h
  chosen_shared (chosen_next h on c) m (Memᴰ.tail k) = chosen_shared c m k

  -- each passes where the arguments and the ends of the edges do
  pub chosen_among : (p : ℕ → Bool) {xs ys ms : List ℕ} → Each (EndsAmong p) G → Chosen ts ls table G xs ys ms → T (joined_pairwise G xs ys) → ((a : ℕ) → Memᴰ a xs → T (p a)) → (m : ℕ) → Memᴰ m ms → T (p m)
  chosen_among p each chosen_none j h m k = absurd (Memᴰ.not-nil k)
  chosen_among p each (chosen_next {a = a} {b = b} {m = n} {as' = xs} {bs = ys} z on c) j h m (Memᴰ.head e) = walk_among p each (h a (Memᴰ.head refl)) (path_walk G a b (pairwise_head G a b xs ys j)) m (subst (λ (x : ℕ). Memᴰ x (vertices a (path G a b))) (sym e) on)
  chosen_among p each (chosen_next {a = a} {b = b} {m = n} {as' = xs} {bs = ys} z on c) j h m (Memᴰ.tail k) = chosen_among p each c (pairwise_tail G a b xs ys j) (λ x i. h x (Memᴰ.tail i)) m k

  -- each is joined to its argument
  pub chosen_joined : {xs ys ms : List ℕ} → Chosen ts ls table G xs ys ms → T (joined_pairwise G xs ys) → T (joined_pairwise G xs ms)
  chosen_joined chosen_none j = j
  chosen_joined (chosen_next {a = a} {b = b} {m = n} {as' = xs} {bs = ys} {ms = ms} z on c) j = pairwise_cons G a n xs ms (walk_between (path_walk G a b (pairwise_head G a b xs ys j)) n on).0 (chosen_joined c (pairwise_tail G a b xs ys j))

-- a given term is a vertex where it is in use
pub vertex_given : (ts : List Term) (ls : List Literal) (st : State) (v : ℕ) → v < length ts → vertex ts ls st v ≡ is_in_use ts ls v
unfolding vertex
vertex_given ts ls st v h = ap (λ (b : Bool). cond b (is_in_use ts ls v) (ltb v (length (table_of ts st)))) (passed (ltb v (length ts)) (lt→ltb v (length ts) h))

-- states with the same added terms have the same vertices
pub vertex_same : (ts : List Term) (ls : List Literal) (st after : State) → st.added ≡ after.added → (v : ℕ) → vertex ts ls st v ≡ vertex ts ls after v
unfolding vertex
vertex_same ts ls st after e v = ap (λ (ms : List Term). cond (ltb v (length ts)) (is_in_use ts ls v) (ltb v (length (ts ++ ms)))) e

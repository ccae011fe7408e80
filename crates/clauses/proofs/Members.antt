-- What the lists of premises and of path clauses hold, one turn at a time: the sentences of 01, with the parent paths' lists one turn shorter.
use mathlib.Core.List.Memᴰ
use mathlib.Core.List.{List, [], flat_map, Memᴰ}
use mathlib.Core.Logic.{⊎_elim}
use mathlib.Core.Path.{◌≡◌, refl, sym, subst}
use Prim.Native.Nat.{ℕ, zero, suc}
use Rattle.tables.specs.Words.{Pair}
use Rattle.tables.specs.Terms.{Term}
use Rattle.tables.specs.declared.Side.{Side}
use Rattle.tables.specs.declared.Side.TheVariants.{A, B}
use Rattle.tables.proofs.Words.{flat_map_mem, mem_flat_map}
use Rattle.closure.specs.Graph.{Hop, Path, path, parent_paths}
use Rattle.clauses.specs.Clauses.{Clause, equals}
use Rattle.clauses.specs.Factors.{Factor, factors}
use Rattle.clauses.specs.Premises.{ends_of, factor_premises, premises, factor_clauses, path_clauses}

-- what two lists of lists hold, one inside the other
twice_mem {ℓ κ μ} : {X : Type ℓ} {Y : Type κ} {Z : Type μ} (f : X → List Y) (g : X → Y → List Z) {z : Z} (xs : List X) → Memᴰ z (flat_map (λ x. flat_map (g x) (f x)) xs) → (x : X) × (y : Y) × Memᴰ x xs × Memᴰ y (f x) × Memᴰ z (g x y)
twice_mem f g xs m =
    let r = flat_map_mem (λ x. flat_map (g x) (f x)) xs m in
    let q = flat_map_mem (g r.0) (f r.0) r.2 in
    (r.0, q.0, r.1, q.1, q.2)

-- and the other way round
mem_twice {ℓ κ μ} : {X : Type ℓ} {Y : Type κ} {Z : Type μ} (f : X → List Y) (g : X → Y → List Z) {x : X} {y : Y} {z : Z} {xs : List X} → Memᴰ x xs → Memᴰ y (f x) → Memᴰ z (g x y) → Memᴰ z (flat_map (λ x. flat_map (g x) (f x)) xs)
mem_twice f g {x} m k n = mem_flat_map (λ x. flat_map (g x) (f x)) m (mem_flat_map (g x) k n)

module _ (table : List Term) (d : ℕ) where
  -- the premises of the parent paths of one edge
  abbrev pub hop_premises : Hop → List Pair
  hop_premises h = flat_map (premises d table) (parent_paths table h)

  -- and of all edges of a factor
  abbrev pub edge_premises : Factor → List Pair
  edge_premises f = flat_map hop_premises f.hops

  -- "the clause "premises imply [factor]""
  abbrev pub factor_clause : Factor → Clause
  factor_clause f = record { premises = edge_premises f; conclusion = equals (ends_of f) }

-- what is among the premises of a path after one turn more
pub data PremiseAt (table : List Term) (d : ℕ) (p : Pair) (π : Path) : Type 0 where
  own_at : {f : Factor} → Memᴰ f (factors π) → f.colour ≡ B → p ≡ ends_of f → PremiseAt table d p π
  parent_at_is : {f : Factor} {h : Hop} {π' : Path} → Memᴰ f (factors π) → f.colour ≡ A → Memᴰ h f.hops → Memᴰ π' (parent_paths table h) → Memᴰ p (premises d table π') → PremiseAt table d p π

-- what is among the path clauses of a path after one turn more
pub data ClauseAt (table : List Term) (d : ℕ) (c : Clause) (π : Path) : Type 0 where
  inside_at : {f : Factor} {h : Hop} {π' : Path} → Memᴰ f (factors π) → f.colour ≡ B → Memᴰ h f.hops → Memᴰ π' (parent_paths table h) → Memᴰ c (path_clauses d table π') → ClauseAt table d c π
  whole_at : {f : Factor} → Memᴰ f (factors π) → f.colour ≡ A → c ≡ factor_clause table d f → ClauseAt table d c π
  under_at : {f : Factor} {h : Hop} {π' : Path} {p : Pair} → Memᴰ f (factors π) → f.colour ≡ A → Memᴰ h f.hops → Memᴰ π' (parent_paths table h) → Memᴰ p (premises d table π') → Memᴰ c (path_clauses d table (path h.older p.left p.right)) → ClauseAt table d c π

module _ (table : List Term) (d : ℕ) where
  -- the premises of one factor
  of_factor : Factor → List Pair
  of_factor f = factor_premises (hop_premises table d) f f.colour

  -- what the list of premises holds is one of these
  pub premise_at : (p : Pair) (π : Path) → Memᴰ p (premises (suc d) table π) → PremiseAt table d p π
  unfolding premises factor_premises of_factor
  premise_at p π m = let r = flat_map_mem of_factor (factors π) m in go r.0 r.1 r.0.colour refl r.2
    where
      go : (f : Factor) → Memᴰ f (factors π) → (X : Side) → f.colour ≡ X → Memᴰ p (factor_premises (hop_premises table d) f X) → PremiseAt table d p π
      go f k A e n = let q = twice_mem (parent_paths table) (λ h. premises d table) f.hops n in parent_at_is k e q.2 q.3 q.4
      go f k B e n = own_at k e (Memᴰ.eq_of_singleton n)

  -- and each of these is in it
  pub at_premise : (p : Pair) (π : Path) → PremiseAt table d p π → Memᴰ p (premises (suc d) table π)
  unfolding premises factor_premises of_factor
  at_premise p π (own_at {f = f} k e q) = mem_flat_map of_factor k (subst (λ (X : Side). Memᴰ p (factor_premises (hop_premises table d) f X)) (sym e) (Memᴰ.head q))
  at_premise p π (parent_at_is {f = f} k e m n o) = mem_flat_map of_factor k (subst (λ (X : Side). Memᴰ p (factor_premises (hop_premises table d) f X)) (sym e) (mem_twice (parent_paths table) (λ h. premises d table) m n o))

  -- the path clauses of one factor
  clauses_of_factor : Factor → List Clause
  clauses_of_factor f = factor_clauses (premises d table) (path_clauses d table) table f f.colour

  -- the path clauses of the premises of one edge's parent paths
  under_hop : Hop → Pair → List Clause
  under_hop h p = path_clauses d table (path h.older p.left p.right)

  -- what the list of path clauses holds is one of these
  pub clause_at : (c : Clause) (π : Path) → Memᴰ c (path_clauses (suc d) table π) → ClauseAt table d c π
  unfolding path_clauses factor_clauses factor_premises clauses_of_factor under_hop
  clause_at c π m = let r = flat_map_mem clauses_of_factor (factors π) m in go r.0 r.1 r.0.colour refl r.2
    where
      under : (f : Factor) → Memᴰ f (factors π) → f.colour ≡ A → Memᴰ c (flat_map (λ h. flat_map (under_hop h) (hop_premises table d h)) f.hops) → ClauseAt table d c π
      under f k e n =
          let q = twice_mem (hop_premises table d) under_hop f.hops n in
          let s = flat_map_mem (premises d table) (parent_paths table q.0) q.3 in
          under_at k e q.2 s.1 s.2 q.4

      go : (f : Factor) → Memᴰ f (factors π) → (X : Side) → f.colour ≡ X → Memᴰ c (factor_clauses (premises d table) (path_clauses d table) table f X) → ClauseAt table d c π
      go f k A e n = ⊎_elim (λ q. whole_at k e q) (λ o. under f k e o) (Memᴰ.cases_cons n)
      go f k B e n = let q = twice_mem (parent_paths table) (λ h. path_clauses d table) f.hops n in inside_at k e q.2 q.3 q.4

  -- and each of these is in it
  pub at_clause : (c : Clause) (π : Path) → ClauseAt table d c π → Memᴰ c (path_clauses (suc d) table π)
  unfolding path_clauses factor_clauses factor_premises clauses_of_factor under_hop
  at_clause c π a = go a
    where
      put : (f : Factor) (X : Side) → Memᴰ f (factors π) → f.colour ≡ X → Memᴰ c (factor_clauses (premises d table) (path_clauses d table) table f X) → Memᴰ c (path_clauses (suc d) table π)
      put f X k e n = mem_flat_map clauses_of_factor k (subst (λ (Y : Side). Memᴰ c (factor_clauses (premises d table) (path_clauses d table) table f Y)) (sym e) n)

      go : ClauseAt table d c π → Memᴰ c (path_clauses (suc d) table π)
      go (inside_at {f = f} k e m n o) = put f B k e (mem_twice (parent_paths table) (λ h. path_clauses d table) m n o)
      go (whole_at {f = f} k e q) = put f A k e (Memᴰ.head q)
      go (under_at {f = f} {h = h} k e m n o x) = put f A k e (Memᴰ.tail (mem_twice (hop_premises table d) under_hop m (mem_flat_map (premises d table) n o) x))

  -- a premise of the edges of a factor is one of a parent path of one of them
  pub edge_premise : (f : Factor) {p : Pair} → Memᴰ p (edge_premises table d f) → (h : Hop) × (π : Path) × Memᴰ h f.hops × Memᴰ π (parent_paths table h) × Memᴰ p (premises d table π)
  edge_premise f m = twice_mem (parent_paths table) (λ h. premises d table) f.hops m

  -- and the other way round
  pub premise_edge : (f : Factor) {h : Hop} {π : Path} {p : Pair} → Memᴰ h f.hops → Memᴰ π (parent_paths table h) → Memᴰ p (premises d table π) → Memᴰ p (edge_premises table d f)
  premise_edge f m n o = mem_twice (parent_paths table) (λ h. premises d table) m n o

-- without a turn there is no premise
pub no_premise : (table : List Term) (p : Pair) (π : Path) → Memᴰ p (premises zero table π) → ⊥
unfolding premises
no_premise table p π m = Memᴰ.not-nil m

-- nor a path clause
pub no_clause : (table : List Term) (c : Clause) (π : Path) → Memᴰ c (path_clauses zero table π) → ⊥
unfolding path_clauses
no_clause table c π m = Memᴰ.not-nil m

-- an empty path has no path clause
pub empty_clauses : (d : ℕ) (table : List Term) (c : Clause) → Memᴰ c (path_clauses d table []) → ⊥
unfolding path_clauses factors flat_map
empty_clauses zero table c m = Memᴰ.not-nil m
empty_clauses (suc d) table c m = Memᴰ.not-nil m

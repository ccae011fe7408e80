-- The lists of premises and of path clauses hold exactly what 01's sentences say, as soon as there are enough turns.
use mathlib.Core.List.{List, Memᴰ}
use mathlib.Core.Logic.{◌↔◌}
use mathlib.Core.Path.{◌≡◌, refl, sym, ap, subst}
use Prim.Native.Nat.{ℕ, zero, suc, ◌<◌}
use native.Mathlib.Nat.{not-suc-le-zero}
use native.Mathlib.Omega.{arith}
use lib.ListN.{length}
use Rattle.tables.specs.Words.{Pair}
use Rattle.tables.specs.Terms.{Term}
use Rattle.closure.specs.Graph.{Graph, Hop, Path, path, parent_paths}
use Rattle.closure.specs.Walks.{HopOf}
use Rattle.closure.proofs.Walking.Walks.{older_fewer}
use Rattle.closure.proofs.Walking.Parents.{path_hop, parent_hop}
use Rattle.clauses.specs.Clauses.{Clause}
use Rattle.clauses.specs.Factors.{Factor, factors}
use Rattle.clauses.specs.Premises.{premises, path_clauses}
use Rattle.clauses.specs.Meaning.{Premise, own, parent, ListsPremises, PathClause, inside, whole, under}
use Rattle.clauses.proofs.Factors.{factors_stretch, factor_hop}
use Rattle.clauses.proofs.Members.{factor_clause, edge_premises, PremiseAt, own_at, parent_at_is, ClauseAt, inside_at, whole_at, under_at, premise_at, at_premise, clause_at, at_clause, edge_premise, premise_edge, no_premise, no_clause}

-- d turns are enough for a path: fewer edges than that are older than each of its hops
abbrev pub Enough : ℕ → Path → Type 0
Enough d π = (h : Hop) → Memᴰ h π → length h.older < d

-- as many turns as the graph has edges are enough for its paths
pub path_enough : (G : Graph) (u v : ℕ) → Enough (length G) (path G u v)
path_enough G u v h m = older_fewer (path_hop G u v m)

-- without a turn left there is no factor
no_factor : (π : Path) {f : Factor} → Enough zero π → Memᴰ f (factors π) → ⊥
no_factor π enough m =
    let s = factors_stretch π m in
    not-suc-le-zero (enough s.first (factor_hop π m (subst (λ (ρ : Path). Memᴰ s.first ρ) (sym s.hops_are) (Memᴰ.head refl))))

-- one turn fewer is enough for a path over the edges older than a hop
older_enough : (d : ℕ) (π : Path) {f : Factor} {h : Hop} → Enough (suc d) π → Memᴰ f (factors π) → Memᴰ h f.hops → (ρ : Path) → ((g : Hop) → Memᴰ g ρ → HopOf g h.older) → Enough d ρ
older_enough d π {h = h} enough k n ρ over g m = omega (arith, enough h (factor_hop π k n), older_fewer (over g m))

-- the list has a clause with this conclusion and with the same premises, in whatever order and number
abbrev pub Listed : Clause → List Clause → Type 0
Listed c cs = (x : Clause) × Memᴰ x cs × (x.conclusion ≡ c.conclusion) × ((p : Pair) → Memᴰ p x.premises ↔ Memᴰ p c.premises)

module _ (table : List Term) where
  -- the same for its parent paths
  parent_enough : (d : ℕ) (π : Path) {f : Factor} {h : Hop} {ρ : Path} → Enough (suc d) π → Memᴰ f (factors π) → Memᴰ h f.hops → Memᴰ ρ (parent_paths table h) → Enough d ρ
  parent_enough d π {h = h} {ρ = ρ} enough k n o = older_enough d π enough k n ρ (λ g m. parent_hop table h o m)

  -- what the list of premises holds is a premise
  pub premise_meaning : (d : ℕ) (p : Pair) (π : Path) → Memᴰ p (premises d table π) → Premise table p π
  premise_meaning zero p π m = absurd (no_premise table p π m)
  premise_meaning (suc d) p π m = go (premise_at table d p π m) (λ ρ k. premise_meaning d p ρ k)
    where
      go : PremiseAt table d p π → ((ρ : Path) → Memᴰ p (premises d table ρ) → Premise table p ρ) → Premise table p π
      go (own_at k e q) ih = own k e q
      go (parent_at_is {π' = ρ} k e n o x) ih = parent k e n o (ih ρ x)

  -- and with enough turns it holds every premise
  pub premise_listed : (d : ℕ) (p : Pair) {π : Path} → Enough d π → Premise table p π → Memᴰ p (premises d table π)
  premise_listed zero p {π} enough (own k e q) = absurd (no_factor π enough k)
  premise_listed zero p {π} enough (parent k e n o x) = absurd (no_factor π enough k)
  premise_listed (suc d) p {π} enough (own k e q) = at_premise table d p π (own_at k e q)
  premise_listed (suc d) p {π} enough (parent k e n o x) = at_premise table d p π (parent_at_is k e n o (premise_listed d p (parent_enough d π enough k n o) x))

  -- "Premises of a path": the list and the sentence
  pub premises_mean : (d : ℕ) (p : Pair) (π : Path) → Enough d π → Memᴰ p (premises d table π) ↔ Premise table p π
  premises_mean d p π enough = (premise_meaning d p π, premise_listed d p enough)

  -- the premises of an A-factor's clause are listed in full
  edges_listed : (d : ℕ) (π : Path) (f : Factor) → Enough (suc d) π → Memᴰ f (factors π) → ListsPremises table f (edge_premises table d f)
  edges_listed d π f enough k p =
      (λ m. let r = edge_premise table d f m in (r.0, r.2, (r.1, r.3, premise_meaning d p r.1 r.4)), λ r. premise_edge table d f r.1 r.2.1 (premise_listed d p (parent_enough d π enough k r.1 r.2.1) r.2.2))

  -- what the list of path clauses holds is a path clause
  pub clause_meaning : (d : ℕ) (c : Clause) (π : Path) → Enough d π → Memᴰ c (path_clauses d table π) → PathClause table c π
  clause_meaning zero c π enough m = absurd (no_clause table c π m)
  clause_meaning (suc d) c π enough m = go (clause_at table d c π m) (λ ρ enough' k. clause_meaning d c ρ enough' k)
    where
      go : ClauseAt table d c π → ((ρ : Path) → Enough d ρ → Memᴰ c (path_clauses d table ρ) → PathClause table c ρ) → PathClause table c π
      go (inside_at {π' = ρ} k e n o x) ih = inside k e n o (ih ρ (parent_enough d π enough k n o) x)
      go (whole_at {f = f} k e q) ih = whole k e (subst (λ (x : Clause). ListsPremises table f x.premises) (sym q) (edges_listed d π f enough k)) (ap (λ (x : Clause). x.conclusion) q)
      go (under_at {h = h} {π' = ρ} {p = p} k e n o x y) ih =
          let way = path h.older p.left p.right in
          under k e n o (premise_meaning d p ρ x) (ih way (older_enough d π enough k n way (λ g m. path_hop h.older p.left p.right m)) y)

  -- two lists of the same premises have the same members
  same_premises : (f : Factor) (ps qs : List Pair) → ListsPremises table f ps → ListsPremises table f qs → (p : Pair) → Memᴰ p ps ↔ Memᴰ p qs
  same_premises f ps qs h k p = (λ m. (k p).1 ((h p).0 m), λ m. (h p).1 ((k p).0 m))

  -- and with enough turns it holds every path clause
  pub clause_listed : (d : ℕ) (c : Clause) {π : Path} → Enough d π → PathClause table c π → Listed c (path_clauses d table π)
  clause_listed zero c {π} enough (inside k e n o x) = absurd (no_factor π enough k)
  clause_listed zero c {π} enough (whole k e l q) = absurd (no_factor π enough k)
  clause_listed zero c {π} enough (under k e n o x y) = absurd (no_factor π enough k)
  clause_listed (suc d) c {π} enough (inside k e n o x) =
      let r = clause_listed d c (parent_enough d π enough k n o) x in
      (r.0, at_clause table d r.0 π (inside_at k e n o r.1), r.2, r.3)
  clause_listed (suc d) c {π} enough (whole {f = f} k e l q) =
      (factor_clause table d f, at_clause table d (factor_clause table d f) π (whole_at k e refl), sym q, same_premises f (edge_premises table d f) c.premises (edges_listed d π f enough k) l)
  clause_listed (suc d) c {π} enough (under {h = h} {p = p} k e n o x y) =
      let way = path h.older p.left p.right in
      let r = clause_listed d c (older_enough d π enough k n way (λ g m. path_hop h.older p.left p.right m)) y in
      (r.0, at_clause table d r.0 π (under_at k e n o (premise_listed d p (parent_enough d π enough k n o) x) r.1), r.2, r.3)

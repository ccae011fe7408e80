-- The premises of a path clause are those of the path between its ends, so the summary has one clause for a conclusion. Hence what its records say is
-- what the summary says, and the interpolation theorem is one of the bytes that are written.
use mathlib.Core.Bool.{Bool}
use mathlib.Core.List.Memᴰ
use mathlib.Core.List.{List, [], ◌∷◌, ◌++◌, flat_map, append_assoc, append-nil, Memᴰ}
use mathlib.Core.Logic.{◌⊎◌, inl, inr, ⊎_elim, ◌↔◌}
use mathlib.Core.Path.{◌≡◌, refl, sym, ap, subst, ◌∙◌}
use Prim.Native.Nat.{ℕ, ◌≤◌, ◌<◌}
use native.Mathlib.Omega.{arith}
use lib.Dec.{T}
use lib.ListN.{length}
use Rattle.tables.specs.Words.{Pair}
use Rattle.tables.specs.Terms.{Term}
use Rattle.tables.specs.Parts.{LowerArguments}
use Rattle.tables.specs.declared.Literal.{Literal}
use Rattle.tables.specs.declared.Kind.TheVariants.{Different}
use Rattle.tables.specs.declared.Side.{Side}
use Rattle.tables.specs.declared.Side.TheVariants.{A, B}
use Rattle.tables.specs.Colours.{colourable}
use Rattle.tables.specs.Interpretations.{Interpretation, Satisfies}
use Rattle.tables.proofs.Colours.{SidesWithin}
use Rattle.closure.specs.Graph.{Graph, Hop, Path, joined, path, parent_paths}
use Rattle.closure.specs.Walks.{Walk, hop, IsPath}
use Rattle.closure.proofs.Walking.Joined.{joined_sym}
use Rattle.closure.proofs.Walking.Walks.{older_fewer, older_joined, walk_joined, walk_hop}
use Rattle.closure.proofs.Walking.Invariant.{SoundGraph}
use Rattle.closure.proofs.Walking.OnePath.{path_is, path_older, one_path, stretch_is}
use Rattle.closure.proofs.Walking.Parents.{hop_sound}
use Rattle.closure.proofs.Walking.ParentPaths.{sound_forest, path_ends_differ, parent_in}
use Rattle.clauses.specs.Clauses.{between, Clause, Conclusion, equals, falsum}
use Rattle.clauses.specs.Factors.{Factor, factors}
use Rattle.clauses.specs.Premises.{ends_of, path_clauses}
use Rattle.clauses.specs.Meaning.{Premise, own, parent, ListsPremises, PathClause, inside, whole, under}
use Rattle.clauses.specs.Reading.{Stretches, end_of, stretches, not_middle, outer_premises, premises_in, clauses_in, read_a, read_between, summary}
use Rattle.clauses.specs.Records.{is_last, clause_in_order, clause_records}
use Rattle.clauses.specs.ReadBack.{clauses_read}
use Rattle.clauses.specs.Truth.{TrueClauses, SharedClause, Summarises}
use Rattle.clauses.proofs.Factors.{Stretch, last_one, all_hops, factors_whole, factors_stretch, longest_factors, factor_walk}
use Rattle.clauses.proofs.Truths.{between_sides, factor_hop_of, older_sound, parent_below, premise_joined}
use Rattle.clauses.proofs.Shared.{walk_carries}
use Rattle.clauses.proofs.Stretches.{Divided, stretches_divided, end_of_walk, before_is, middle_is, after_is}
use Rattle.clauses.proofs.Meaning.{Enough, path_enough, Listed, premise_meaning, premise_listed, premises_mean, clause_meaning, clause_listed}
use Rattle.clauses.proofs.Interpolation.{last_clause, outer_cases, outer_before, outer_after, ReadingA, of_middle, of_outer_is, of_last, read_a_mem, summary_shared, summary_a, summary_b}
use Rattle.clauses.proofs.Order.{PairWithin, ConclusionWithin, ClauseWithin, OneEach, SameClause, SaidBy, ascending_mem, mem_ascending, all_standing, standing_exactly, between_within}
use Rattle.clauses.proofs.Records.{clause_bytes, read_back_bytes, bytes_true, bytes_shared}
use Rattle.clauses.proofs.Backwards.{premise_other_end}

-- ---- factors of a path

-- the hops of a factor stand in one piece among all
hops_cut : {f : Factor} {fs : List Factor} → Memᴰ f fs → (π : Path) × (ρ : Path) × (all_hops fs ≡ π ++ (f.hops ++ ρ))
unfolding flat_map
hops_cut (Memᴰ.head {xs = fs} e) = ([], all_hops fs, ap (λ (g : Factor). g.hops ++ all_hops fs) (sym e))
hops_cut {f} (Memᴰ.tail {x = g} m) =
    let r = hops_cut m in
    (g.hops ++ r.0, r.1, ap (λ (τ : Path). g.hops ++ τ) r.2 ∙ sym (append_assoc g.hops r.0 (f.hops ++ r.1)))

-- a factor of a path is a path
pub factor_is : {G : Graph} {u v : ℕ} {π : Path} {f : Factor} → IsPath G u v π → Memᴰ f (factors π) → IsPath G f.from f.to f.hops
factor_is {G} {u} {v} {π} {f} p m =
    let r = hops_cut m in
    stretch_is r.0 f.hops r.1 (subst (IsPath G u v) (sym (factors_whole π) ∙ r.2) p) (factor_walk p.walk m)

-- a stretch of one colour is its own only factor
pub own_factor : {f : Factor} → Stretch f → factors f.hops ≡ f ∷ []
unfolding flat_map
own_factor {f} s = longest_factors f.hops (f ∷ []) (record { whole = append-nil f.hops; stretch = λ g m. subst Stretch (sym (Memᴰ.eq_of_singleton m)) s; alternate = last_one })

-- as many turns as the graph has edges are enough for its walks
pub walk_enough : {G : Graph} {u v : ℕ} {π : Path} → Walk G u v π → Enough (length G) π
walk_enough w h m = older_fewer (walk_hop w m)

-- ---- the clauses of a path

-- a clause that comes from a path of the graph: it concludes the equality of joined terms, and its premises are those of the path between them
pub record OfPath (table : List Term) (G : Graph) (c : Clause) : Type 0 where
  pub of : Pair
  pub concluded : c.conclusion ≡ equals of
  pub of_within : PairWithin (length table) of
  pub connected : T (joined G of.left of.right)
  pub premises_are : (q : Pair) → Memᴰ q c.premises ↔ Premise table q (path G of.left of.right)

module _ (ts : List Term) (ls : List Literal) (table : List Term) where
  -- the ends of a path with a hop are two terms of the table
  pub ends_within : {G : Graph} {u v : ℕ} {h : Hop} {π : Path} → SoundGraph ts ls table G → IsPath G u v (h ∷ π) → PairWithin (length table) (between u v)
  ends_within {G} {u} {v} {h} {π} s p = between_within (length table) u v (path_ends_differ p) start (both.0 start)
    where
      both : (u < length table → v < length table) × (v < length table → u < length table)
      both = walk_carries (λ x. x < length table) p.walk (λ g m. let k = hop_sound ts ls table (walk_hop p.walk m) s in (k.from_within, k.to_within))

      first : Walk G u v (h ∷ π) → u < length table
      first (hop k q w) = subst (λ (x : ℕ). x < length table) (sym q) (hop_sound ts ls table k s).from_within

      start : u < length table
      start = first p.walk

  -- so are the ends of a factor
  pub factor_within : {G : Graph} {u v : ℕ} {π : Path} {f : Factor} → SoundGraph ts ls table G → IsPath G u v π → Memᴰ f (factors π) → PairWithin (length table) (ends_of f)
  factor_within {G} {π = π} {f = f} s p m =
      let x = factors_stretch π m in
      ends_within s (subst (IsPath G f.from f.to) x.hops_are (factor_is p m))

  -- the premises of a path are pairs of terms of the table
  pub premise_within : (p : Pair) {G : Graph} {u v : ℕ} {π : Path} → SoundGraph ts ls table G → IsPath G u v π → Premise table p π → PairWithin (length table) p
  premise_within p s is (own m e q) = subst (PairWithin (length table)) (sym q) (factor_within s is m)
  premise_within p {G} {u} s is (parent m e n o x) =
      let inner = parent_in ts ls table {G = G} s (factor_hop_of is.walk m n) o in
      premise_within p {u = inner.0} s inner.2 x

  -- which the graph joins
  pub premise_connected : (p : Pair) {G : Graph} {u v : ℕ} {π : Path} → SoundGraph ts ls table G → Walk G u v π → Premise table p π → T (joined G p.left p.right)
  premise_connected p {G} s w x = premise_joined ts ls table (length G) p s w (premise_listed table (length G) p (walk_enough w) x)

  -- the premises of an A-factor's edges are the premises of the path between its ends
  pub factor_premises_is : {G : Graph} {u v : ℕ} {π : Path} {f : Factor} → SoundGraph ts ls table G → IsPath G u v π → Memᴰ f (factors π) → f.colour ≡ A → (ps : List Pair) → ListsPremises table f ps → (q : Pair) → Memᴰ q ps ↔ Premise table q (path G f.from f.to)
  factor_premises_is {G} {π = π} {f = f} s is m e ps lists q = subst (λ (ρ : Path). Memᴰ q ps ↔ Premise table q ρ) (one_path G (sound_forest ts ls table G s) (factor_is is m)) (λ k. to ((lists q).0 k), λ x. (lists q).1 (back x))
    where
      itself : factors f.hops ≡ f ∷ []
      itself = own_factor (factors_stretch π m)

      only : {g : Factor} → Memᴰ g (factors f.hops) → g ≡ f
      only {g} k = Memᴰ.eq_of_singleton (subst (λ (fs : List Factor). Memᴰ g fs) itself k)

      to : (h : Hop) × Memᴰ h f.hops × ((ρ : Path) × Memᴰ ρ (parent_paths table h) × Premise table q ρ) → Premise table q f.hops
      to r = parent (subst (λ (fs : List Factor). Memᴰ f fs) (sym itself) (Memᴰ.head refl)) e r.1 r.2.1 r.2.2

      back : Premise table q f.hops → (h : Hop) × Memᴰ h f.hops × ((ρ : Path) × Memᴰ ρ (parent_paths table h) × Premise table q ρ)
      back (own k b x) = let c = only k in let z : ◌≡◌ {A = ℕ} 0 1 = cc (ap (λ (g : Factor). g.colour) c) in absurd (omega arith)
      back (parent {π' = ρ} {h = h} k a n o x) = (h, subst (λ (g : Factor). Memᴰ h g.hops) (only k) n, (ρ, o, x))

  -- a path clause of a path of the graph comes from a path of the graph
  pub clause_of_path : (c : Clause) {G : Graph} {u v : ℕ} {π : Path} → SoundGraph ts ls table G → IsPath G u v π → PathClause table c π → OfPath table G c
  clause_of_path c {G} {u} s is (inside m e n o x) =
      let inner = parent_in ts ls table {G = G} s (factor_hop_of is.walk m n) o in
      clause_of_path c {u = inner.0} s inner.2 x
  clause_of_path c {G} s is (whole {f = f} m e lists q) =
      let j = walk_joined (factor_walk is.walk m) in
      let premises-from = factor_premises_is s is m e c.premises lists in
      record {
        of = ends_of f;
        concluded = q;
        of_within = factor_within s is m;
        connected = between_sides (λ x y. T (joined G x y)) f.from f.to j (joined_sym G f.from f.to j);
        premises_are = between_sides (λ x y. (q : Pair) → Memᴰ q c.premises ↔ Premise table q (path G x y)) f.from f.to premises-from (λ q. let t = premise_other_end ts ls table G s f.from f.to j q in (λ k. t.0 ((premises-from q).0 k), λ x. (premises-from q).1 (t.1 x)));
      }
  clause_of_path c {G} s is (under {π' = ρ} {p = p} m e n o x y) =
      let of = factor_hop_of is.walk m n in
      let j = premise_connected p (older_sound ts ls table s of) (parent_below ts ls table s of ρ o).4 x in
      let same = path_older p.left p.right of j in
      clause_of_path c s (subst (IsPath G p.left p.right) (sym same) (path_is G p.left p.right (older_joined p.left p.right of j))) y

  -- so does every clause in the list of the path clauses
  pub listed_of_path : (c : Clause) {G : Graph} {u v : ℕ} {π : Path} → SoundGraph ts ls table G → IsPath G u v π → Memᴰ c (path_clauses (length G) table π) → OfPath table G c
  listed_of_path c {G} {π = π} s is m = clause_of_path c s is (clause_meaning table (length G) c π (walk_enough is.walk) m)

  -- such a clause is over terms of the table
  pub of_path_within : {c : Clause} {G : Graph} → SoundGraph ts ls table G → OfPath table G c → ClauseWithin (length table) c
  of_path_within {c} {G} s o =
      record {
        premises_within = λ q m. premise_within q s (path_is G o.of.left o.of.right o.connected) ((o.premises_are q).0 m);
        conclusion_within = subst (ConclusionWithin (length table)) (sym o.concluded) o.of_within;
      }

-- a clause that comes from a path is not of kind 3 or 4
of_path_kind : {table : List Term} {G : Graph} {c : Clause} → OfPath table G c → T (is_last c.conclusion) → ⊥
unfolding is_last
of_path_kind o h = subst (λ (k : Conclusion). T (is_last k)) o.concluded h

-- two such clauses with one conclusion have the same premises: those of the path between the ends
of_path_agree : {table : List Term} {G : Graph} {c d : Clause} → OfPath table G c → OfPath table G d → c.conclusion ≡ d.conclusion → (q : Pair) → Memᴰ q c.premises → Memᴰ q d.premises
of_path_agree {table} {G} o p e q m =
    let same : o.of ≡ p.of = cc (o.concluded, p.concluded) in
    (p.premises_are q).1 (subst (λ (x : Pair). Premise table q (path G x.left x.right)) same ((o.premises_are q).0 m))

-- clauses that come from paths of the graph, and beside them at most one, of kind 3 or 4, over terms of the table
pub record FromPaths (table : List Term) (G : Graph) (cs : List Clause) : Type 0 where
  pub last : Clause
  pub last_kind : T (is_last last.conclusion)
  pub last_within : ClauseWithin (length table) last
  pub each : (c : Clause) → Memᴰ c cs → OfPath table G c ⊎ (c ≡ last)

-- of these, a clause that concludes an equality has the premises of the path between its ends
pub from_paths_premises : {table : List Term} {G : Graph} {cs : List Clause} → FromPaths table G cs → {c : Clause} {p : Pair} → Memᴰ c cs → c.conclusion ≡ equals p → (q : Pair) → Memᴰ q c.premises ↔ Premise table q (path G p.left p.right)
unfolding is_last
from_paths_premises {table} {G} from {c} {p} m e q = go (from.each c m)
  where
    go : OfPath table G c ⊎ (c ≡ from.last) → Memᴰ q c.premises ↔ Premise table q (path G p.left p.right)
    go (inl o) = let same : o.of ≡ p = cc o.concluded in subst (λ (x : Pair). Memᴰ q c.premises ↔ Premise table q (path G x.left x.right)) same (o.premises_are q)
    go (inr d) = absurd (subst (λ (k : Conclusion). T (is_last k)) (ap (λ (x : Clause). x.conclusion) (sym d) ∙ e) from.last_kind)

module _ (ts : List Term) (ls : List Literal) (table : List Term) (G : Graph) (sound : SoundGraph ts ls table G) where
  -- such clauses are one for each conclusion
  from_paths_one_each : {cs : List Clause} → FromPaths table G cs → OneEach (length table) cs
  from_paths_one_each from =
      record {
        within = λ c m. ⊎_elim (of_path_within ts ls table sound) (λ e. subst (ClauseWithin (length table)) (sym e) from.last_within) (from.each c m);
        agree = λ c d m k e q. agree c d (from.each c m) (from.each d k) e q;
        lasts = λ c d m k h l. ap (λ (x : Clause). x.conclusion) (is c (from.each c m) h ∙ sym (is d (from.each d k) l));
      }
    where
      is : (c : Clause) → OfPath table G c ⊎ (c ≡ from.last) → T (is_last c.conclusion) → c ≡ from.last
      is c (inl o) h = absurd (of_path_kind o h)
      is c (inr e) h = e

      kind_of : (c : Clause) → c ≡ from.last → T (is_last c.conclusion)
      kind_of c e = subst (λ (x : Clause). T (is_last x.conclusion)) (sym e) from.last_kind

      agree : (c d : Clause) → OfPath table G c ⊎ (c ≡ from.last) → OfPath table G d ⊎ (d ≡ from.last) → c.conclusion ≡ d.conclusion → (q : Pair) → Memᴰ q c.premises → Memᴰ q d.premises
      agree c d (inl o) (inl p) e q m = of_path_agree o p e q m
      agree c d (inl o) (inr p) e q m = absurd (of_path_kind o (subst (λ (k : Conclusion). T (is_last k)) (sym e) (kind_of d p)))
      agree c d (inr o) (inl p) e q m = absurd (of_path_kind p (subst (λ (k : Conclusion). T (is_last k)) e (kind_of c o)))
      agree c d (inr o) (inr p) e q m = subst (λ (x : Clause). Memᴰ q x.premises) (o ∙ sym p) m

  -- "not [middle]" of a path speaks of two terms of the table, or is false
  middle_within : {u v : ℕ} (π : Path) → IsPath G u v π → ConclusionWithin (length table) (not_middle π)
  unfolding not_middle
  middle_within [] p = tt
  middle_within {u} {v} (h ∷ π) p = subst (PairWithin (length table)) (ends p.walk) (ends_within ts ls table sound p)
    where
      ends : Walk G u v (h ∷ π) → between u v ≡ between h.from (end_of h.to π)
      ends (hop k q w) = λ i. between (q i) (sym (end_of_walk w) i)

  -- it is of kind 3 or 4
  middle_kind : (π : Path) → T (is_last (not_middle π))
  unfolding not_middle is_last
  middle_kind [] = tt
  middle_kind (h ∷ π) = tt

  -- the clauses of a disequality in A come from paths, with a last one
  read_a_from_paths : (in_b : ℕ → Bool) (u v : ℕ) → T (joined G u v) → (z : Stretches) → Divided in_b G u v (path G u v) z → FromPaths table G (read_a ts ls table G z)
  read_a_from_paths in_b u v j z div =
      record {
        last = last_clause ts ls table G z;
        last_kind = middle_kind z.middle;
        last_within = record { premises_within = outer_within; conclusion_within = middle_within z.middle (middle_is div (path_is G u v j)) };
        each = λ c m. go c (read_a_mem ts ls table G z c m);
      }
    where
      outer_within : (p : Pair) → Memᴰ p (outer_premises ts ls table G z) → PairWithin (length table) p
      outer_within p m =
          ⊎_elim (λ k. premise_within ts ls table p sound (before_is div (path_is G u v j)) (premise_meaning table (length G) p z.before k))
          (λ k. premise_within ts ls table p sound (after_is div (path_is G u v j)) (premise_meaning table (length G) p z.after k))
          (outer_cases ts ls table G z m)

      outer_is : (p : Pair) → Memᴰ p (outer_premises ts ls table G z) → IsPath G p.left p.right (path G p.left p.right)
      outer_is p m = path_is G p.left p.right (⊎_elim (λ k. premise_joined ts ls table (length G) p sound div.before_walk k) (λ k. premise_joined ts ls table (length G) p sound div.after_walk k) (outer_cases ts ls table G z m))

      go : (c : Clause) → ReadingA ts ls table G z c → OfPath table G c ⊎ (c ≡ last_clause ts ls table G z)
      go c (of_middle k) = inl (listed_of_path ts ls table c sound (middle_is div (path_is G u v j)) k)
      go c (of_outer_is {p = p} k x) = inl (listed_of_path ts ls table c sound (outer_is p k) x)
      go c (of_last e) = inr e

  -- those of a disequality in B come from paths alone; so all clauses of a disequality come from paths
  pub read_from_paths : (X : Side) (u v : ℕ) → T (joined G u v) → FromPaths table G (read_between ts ls table G X u v)
  unfolding read_between is_last
  read_from_paths A u v j =
      let in_b = colourable ts ls B table in
      read_a_from_paths in_b u v j (stretches in_b u (path G u v)) (stretches_divided in_b G v u (path G u v) (path_is G u v j).walk)
  read_from_paths B u v j =
      record {
        last = record { premises = []; conclusion = falsum };
        last_kind = tt;
        last_within = record { premises_within = λ p m. absurd (Memᴰ.not-nil m); conclusion_within = tt };
        each = λ c m. inl (listed_of_path ts ls table c sound (path_is G u v j) m);
      }

-- ---- what a reader believes, in a graph

module _ (ts : List Term) (ls : List Literal) (table : List Term) (G : Graph) (u v : ℕ) where
  -- "Premises of a path": the list of the path between two terms of the graph holds these alone, and all of them
  pub premises_in_mean : (p : Pair) → Memᴰ p (premises_in ts ls table G (path G u v)) ↔ Premise table p (path G u v)
  premises_in_mean p = premises_mean table (length G) p (path G u v) (path_enough G u v)

  -- "Path clauses": what the list holds is one of them
  pub clauses_in_meaning : (c : Clause) → Memᴰ c (clauses_in ts ls table G (path G u v)) → PathClause table c (path G u v)
  clauses_in_meaning c m = clause_meaning table (length G) c (path G u v) (path_enough G u v) m

  -- and each of them stands in it, with the same premises in whatever order
  pub clauses_in_listed : (c : Clause) → PathClause table c (path G u v) → Listed c (clauses_in ts ls table G (path G u v))
  clauses_in_listed c x = clause_listed table (length G) c (path_enough G u v) x

  -- the outer premises of a divided path are the premises of the stretches before and after the middle one
  pub outer_premises_mean : {in_b : ℕ → Bool} (z : Stretches) → Divided in_b G u v (path G u v) z → (p : Pair) → Memᴰ p (outer_premises ts ls table G z) ↔ (Premise table p z.before ⊎ Premise table p z.after)
  outer_premises_mean z div p = (λ m. ⊎_elim (λ k. inl (premise_meaning table (length G) p z.before k)) (λ k. inr (premise_meaning table (length G) p z.after k)) (outer_cases ts ls table G z m), ⊎_elim (λ x. outer_before ts ls table G z (premise_listed table (length G) p (walk_enough div.before_walk) x)) (λ x. outer_after ts ls table G z (premise_listed table (length G) p (walk_enough div.after_walk) x)))

-- ---- the theorem on what is written

-- the clauses that a reader gets from the bytes of a summary's records, whatever follows them
abbrev pub written_clauses : ℕ → List Clause → List ℕ → List Clause
written_clauses n cs rest = clauses_read (length (clause_records n cs)) (clause_bytes n cs ++ rest)

-- a clause with its premises in order says the same
in_order_says : (n : ℕ) (c : Clause) → ClauseWithin n c → SameClause (clause_in_order n c) c
in_order_says n c w = record { conclusions = refl; premises_same = λ p. (λ m. (ascending_mem n c.premises p m).0, λ m. mem_ascending n c.premises p m (w.premises_within p m)) }

-- every clause read back is one of the list, with its premises in order
pub written_said : (n : ℕ) (cs : List Clause) (rest : List ℕ) → n ≤ 65536 → OneEach n cs → SaidBy (written_clauses n cs rest) cs
written_said n cs rest fits one c m =
    let r = (standing_exactly n cs one c).0 (subst (λ (ds : List Clause). Memᴰ c ds) (read_back_bytes n cs rest fits (λ d k h. (one.within d k).conclusion_within)) m) in
    (r.0, r.1, subst (λ (x : Clause). SameClause x r.0) (sym r.2) (in_order_says n r.0 (one.within r.0 r.1)))

-- and every clause of the list is read back
pub said_written : (n : ℕ) (cs : List Clause) (rest : List ℕ) → n ≤ 65536 → OneEach n cs → (c : Clause) → Memᴰ c cs → Memᴰ (clause_in_order n c) (written_clauses n cs rest)
said_written n cs rest fits one c m = subst (λ (ds : List Clause). Memᴰ (clause_in_order n c) ds) (sym (read_back_bytes n cs rest fits (λ d k h. (one.within d k).conclusion_within))) (all_standing n cs one c m)

module _ (ts more : List Term) (ls : List Literal) (low : LowerArguments (ts ++ more)) (within : SidesWithin ts ls) (G : Graph) (sound : SoundGraph ts ls (ts ++ more) G) (l : Literal) (stands : Memᴰ l ls) (differ : l.kind ≡ Different) (meet : T (joined G l.left l.right)) where
  -- all clauses of the summary but the last come from paths of the graph
  pub summary_from_paths : FromPaths (ts ++ more) G (summary ts ls (ts ++ more) G l)
  unfolding summary
  summary_from_paths = read_from_paths ts ls (ts ++ more) G sound l.side l.left l.right meet

  -- the premises of a clause that concludes an equality are those of the path between its ends: its conclusion determines them
  pub summary_premises : (c : Clause) (p : Pair) → Memᴰ c (summary ts ls (ts ++ more) G l) → c.conclusion ≡ equals p → (q : Pair) → Memᴰ q c.premises ↔ Premise (ts ++ more) q (path G p.left p.right)
  summary_premises c p m e = from_paths_premises summary_from_paths m e

  -- so the summary has one clause for a conclusion, over terms of the table
  pub summary_one_each : OneEach (length (ts ++ more)) (summary ts ls (ts ++ more) G l)
  summary_one_each = from_paths_one_each ts ls (ts ++ more) G sound summary_from_paths

  module _ (fits : length (ts ++ more) ≤ 65536) (rest : List ℕ) where
    -- the clauses read back use only shared symbols
    pub written_shared : (c : Clause) → Memᴰ c (written_clauses (length (ts ++ more)) (summary ts ls (ts ++ more) G l) rest) → SharedClause ts ls (ts ++ more) c
    written_shared = bytes_shared (length (ts ++ more)) (summary ts ls (ts ++ more) G l) rest fits (λ c m h. (summary_one_each.within c m).conclusion_within) ts ls (ts ++ more) (summary_shared ts more ls low within G sound l stands differ meet)

    -- every interpretation that satisfies A makes each of them true
    pub written_a : (I : Interpretation) → Satisfies I ts ls A → TrueClauses I (ts ++ more) (written_clauses (length (ts ++ more)) (summary ts ls (ts ++ more) G l) rest)
    written_a I holds = (bytes_true (length (ts ++ more)) (summary ts ls (ts ++ more) G l) rest fits summary_one_each I (ts ++ more)).0 (summary_a ts more ls low within G sound l stands differ meet I holds)

    -- no interpretation that satisfies B makes all of them true
    pub written_b : (I : Interpretation) → Satisfies I ts ls B → TrueClauses I (ts ++ more) (written_clauses (length (ts ++ more)) (summary ts ls (ts ++ more) G l) rest) → ⊥
    written_b I holds given = summary_b ts more ls low within G sound l stands differ meet I holds ((bytes_true (length (ts ++ more)) (summary ts ls (ts ++ more) G l) rest fits summary_one_each I (ts ++ more)).1 given)

    -- the premises of a clause read back that concludes an equality are those of the path between its ends
    pub written_premises : (c : Clause) (p : Pair) → Memᴰ c (written_clauses (length (ts ++ more)) (summary ts ls (ts ++ more) G l) rest) → c.conclusion ≡ equals p → (q : Pair) → Memᴰ q c.premises ↔ Premise (ts ++ more) q (path G p.left p.right)
    written_premises c p m e q =
        let r = written_said (length (ts ++ more)) (summary ts ls (ts ++ more) G l) rest fits summary_one_each c m in
        let same = r.2.premises_same q in
        let means = summary_premises r.0 p r.1 (sym r.2.conclusions ∙ e) q in
        (λ k. means.0 (same.0 k), λ x. same.1 (means.1 x))

  -- the interpolation theorem on what is written, for a table as large as the given and the added terms together can be
  pub written_summarises : length (ts ++ more) ≤ 511 → (rest : List ℕ) → Summarises ts ls (ts ++ more) (written_clauses (length (ts ++ more)) (summary ts ls (ts ++ more) G l) rest)
  written_summarises few rest = let fits : length (ts ++ more) ≤ 65536 = omega arith in record { shared = written_shared fits rest; follows_from_a = written_a fits rest; contradicts_b = written_b fits rest }

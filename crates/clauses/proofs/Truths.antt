-- Truth along a walk: A and a walk's premises give its ends equal; so A gives each path clause; B and the path clauses give the ends equal.
use mathlib.Core.List.{List, map, Memᴰ}
use mathlib.Core.Logic.{◌⊎◌, inl, inr}
use mathlib.Core.Path.{◌≡◌, refl, sym, ap, ap₂, subst, ◌∙◌}
use Prim.Native.Nat.{ℕ, zero, suc, ◌≤◌, ◌<◌}
use native.Mathlib.Omega.{arith}
use lib.Dec.{T}
use lib.ListN.{length}
use Rattle.tables.specs.Words.{Pair}
use Rattle.tables.specs.Terms.{Term, term_at}
use Rattle.tables.specs.Parts.{LowerArguments}
use Rattle.tables.specs.declared.Literal.{Literal}
use Rattle.tables.specs.declared.Kind.TheVariants.{Equal}
use Rattle.tables.specs.declared.Side.{Side}
use Rattle.tables.specs.declared.Side.TheVariants.{A, B}
use Rattle.tables.specs.Interpretations.{Interpretation, value}
use Rattle.tables.proofs.Terms.{value_law}
use Rattle.closure.specs.Graph.{Graph, Hop, Path, joined, path, parent_paths}
use Rattle.closure.specs.Walks.{HopOf, Walk, stay, hop}
use Rattle.closure.proofs.Walking.Joined.{joined_sym}
use Rattle.closure.proofs.Walking.Walks.{older_each, older_fewer, older_joined, path_walk, walk_joined, walk_hop}
use Rattle.closure.proofs.Walking.Invariant.{SoundEdge, SoundGraph}
use Rattle.closure.proofs.Walking.Parents.{hop_sound, parent_walk, hop_agree}
use Rattle.clauses.specs.Clauses.{between, Clause}
use Rattle.clauses.specs.Factors.{Factor, factors}
use Rattle.clauses.specs.Premises.{ends_of, premises, path_clauses}
use Rattle.clauses.specs.Truth.{TrueEquality, TrueClause, TrueClauses}
use Rattle.clauses.proofs.Factors.{factors_stretch, factor_hop, factor_walk, walk_chain, chain_agree, walk_agree}
use Rattle.clauses.proofs.Order.{between_either, between_true}
use Rattle.clauses.proofs.Members.{factor_clause, PremiseAt, own_at, parent_at_is, ClauseAt, inside_at, whole_at, under_at, premise_at, at_premise, clause_at, at_clause, edge_premise, premise_edge, no_premise, no_clause}

-- [p] names both ends, in whichever order: what holds of u and v, and of v and u, holds of its sides
pub between_sides {ℓ} : (P : ℕ → ℕ → Type ℓ) (u v : ℕ) → P u v → P v u → P (between u v).left (between u v).right
between_sides P u v h k = between_either (λ p. P p.left p.right) u v h k

-- and back
pub sides_between {ℓ} : (P : ℕ → ℕ → Type ℓ) → ((x y : ℕ) → P x y → P y x) → (u v : ℕ) → P (between u v).left (between u v).right → P u v
sides_between P turn u v = between_either (λ p. P p.left p.right → P u v) u v (λ h. h) (λ h. turn v u h)

-- a graph without edges has no hop, so the ends of a walk are one
pub walk_still : {G : Graph} {u v : ℕ} {π : Path} → length G ≤ zero → Walk G u v π → u ≡ v
walk_still h (stay q) = q
walk_still h (hop k q w) = absurd (omega (arith, older_fewer k))

-- fewer edges need fewer turns
pub older_fits : {h : Hop} {G : Graph} {d : ℕ} → length G ≤ suc d → HopOf h G → length h.older ≤ d
older_fits fits of = omega (arith, older_fewer of)

-- the hops of a factor of a walk are hops of the graph
pub factor_hop_of : {G : Graph} {u v : ℕ} {π : Path} {f : Factor} {h : Hop} → Walk G u v π → Memᴰ f (factors π) → Memᴰ h f.hops → HopOf h G
factor_hop_of {π = π} w m n = walk_hop w (factor_hop π m n)

-- the other side
abbrev pub other : Side → Side
other A = B
other B = A

module _ (ts : List Term) (ls : List Literal) (table : List Term) where
  -- the edges older than a hop are a sound graph too
  pub older_sound : {h : Hop} {G : Graph} → SoundGraph ts ls table G → HopOf h G → SoundGraph ts ls table h.older
  older_sound s of = older_each (SoundEdge ts ls table) of s

  -- a parent path of a hop is a walk over the edges older than it, between arguments of its ends
  pub parent_below : {h : Hop} {G : Graph} → SoundGraph ts ls table G → HopOf h G → (ρ : Path) → Memᴰ ρ (parent_paths table h) → (a : ℕ) × (b : ℕ) × Memᴰ a (term_at table h.from).arguments × Memᴰ b (term_at table h.to).arguments × Walk h.older a b ρ
  parent_below s of = parent_walk ts ls table (hop_sound ts ls table of s)

  -- the premises of a walk are joined
  pub premise_joined : (d : ℕ) (p : Pair) {G : Graph} {u v : ℕ} {π : Path} → SoundGraph ts ls table G → Walk G u v π → Memᴰ p (premises d table π) → T (joined G p.left p.right)
  premise_joined zero p {π = π} s w m = absurd (no_premise table p π m)
  premise_joined (suc d) p {G} {π = π} s w m = go (premise_at table d p π m) (λ H a b ρ s' w' k. premise_joined d p s' w' k)
    where
      go : PremiseAt table d p π → ((H : Graph) (a b : ℕ) (ρ : Path) → SoundGraph ts ls table H → Walk H a b ρ → Memᴰ p (premises d table ρ) → T (joined H p.left p.right)) → T (joined G p.left p.right)
      go (own_at {f = f} k e q) ih =
          let j = walk_joined (factor_walk w k) in
          subst (λ (x : Pair). T (joined G x.left x.right)) (sym q) (between_sides (λ x y. T (joined G x y)) f.from f.to j (joined_sym G f.from f.to j))
      go (parent_at_is {h = h} {π' = ρ} k e n o x) ih =
          let of = factor_hop_of w k n in
          let r = parent_below s of ρ o in
          older_joined p.left p.right of (ih h.older r.0 r.1 ρ (older_sound s of) r.4 x)

  -- so the path between the ends of a premise is a walk
  pub premise_path : (d : ℕ) (p : Pair) {G : Graph} {u v : ℕ} {π : Path} → SoundGraph ts ls table G → Walk G u v π → Memᴰ p (premises d table π) → Walk G p.left p.right (path G p.left p.right)
  premise_path d p {G} s w m = path_walk G p.left p.right (premise_joined d p s w m)

  -- likewise the premises of a parent path, over the edges older than its hop
  pub premise_below : (d : ℕ) (p : Pair) {h : Hop} {G : Graph} {ρ : Path} → SoundGraph ts ls table G → HopOf h G → Memᴰ ρ (parent_paths table h) → Memᴰ p (premises d table ρ) → Walk h.older p.left p.right (path h.older p.left p.right)
  premise_below d p {ρ = ρ} s of o m = premise_path d p (older_sound s of) (parent_below s of ρ o).4 m

module _ (ts : List Term) (ls : List Literal) (table : List Term) (low : LowerArguments table) (I : Interpretation) where
  -- both sides of each equality record of side X have one value
  abbrev pub Keeps : Side → Type 0
  Keeps X = (l : Literal) → Memᴰ l ls → l.kind ≡ Equal → l.side ≡ X → value I table l.left ≡ value I table l.right

  -- the same symbol over the same values gives the same value
  value_follows : (s t : ℕ) → s < length table → t < length table → (term_at table s).symbol ≡ (term_at table t).symbol → map (value I table) (term_at table s).arguments ≡ map (value I table) (term_at table t).arguments → value I table s ≡ value I table t
  value_follows s t h k e q = value_law I table low s h ∙ ap₂ I.function e q ∙ sym (value_law I table low t k)

  -- the ends of every walk over a path have one value
  abbrev Ends : Graph → Path → Type 0
  Ends G π = (a b : ℕ) → Walk G a b π → value I table a ≡ value I table b

  -- so have the ends of a walk over hops of colour X, where the equality records of X hold and the ends of the parent paths have one value
  pub stretch_agree : (X : Side) → Keeps X → {G : Graph} {u v : ℕ} {π : Path} → SoundGraph ts ls table G → Walk G u v π → ((h : Hop) → Memᴰ h π → h.colour ≡ X) → ((h : Hop) → Memᴰ h π → (ρ : Path) → Memᴰ ρ (parent_paths table h) → Ends h.older ρ) → value I table u ≡ value I table v
  stretch_agree X keeps s w colours parents =
      walk_agree (value I table) w
      (λ h m. hop_agree ts ls table (value I table) (hop_sound ts ls table (walk_hop w m) s) (λ l n e c. keeps l n e (c ∙ colours h m)) value_follows (parents h m))

  -- a walk by its factors: those of colour X by their hops, those of the other colour by assumption
  pub factors_agree : (X : Side) → Keeps X → {G : Graph} {u v : ℕ} {π : Path} → SoundGraph ts ls table G → Walk G u v π → ((f : Factor) → Memᴰ f (factors π) → f.colour ≡ other X → value I table f.from ≡ value I table f.to) → ((f : Factor) → Memᴰ f (factors π) → f.colour ≡ X → (h : Hop) → Memᴰ h f.hops → (ρ : Path) → Memᴰ ρ (parent_paths table h) → Ends h.older ρ) → value I table u ≡ value I table v
  factors_agree X keeps {π = π} s w others parents = chain_agree (value I table) (walk_chain w) (λ f m. go f m (one_or_other X f.colour))
    where
      one_or_other : (X Y : Side) → (Y ≡ X) ⊎ (Y ≡ other X)
      one_or_other A A = inl refl
      one_or_other A B = inr refl
      one_or_other B A = inr refl
      one_or_other B B = inl refl

      go : (f : Factor) → Memᴰ f (factors π) → (f.colour ≡ X) ⊎ (f.colour ≡ other X) → value I table f.from ≡ value I table f.to
      go f m (inl e) = stretch_agree X keeps s (factor_walk w m) (λ h n. (factors_stretch π m).one_colour h n ∙ e) (parents f m e)
      go f m (inr e) = others f m e

  -- (a) A and the premises of a walk give its ends equal
  pub premises_agree : Keeps A → (d : ℕ) {G : Graph} {u v : ℕ} {π : Path} → length G ≤ d → SoundGraph ts ls table G → Walk G u v π → ((p : Pair) → Memᴰ p (premises d table π) → TrueEquality I table p) → value I table u ≡ value I table v
  premises_agree keeps zero fits s w given = ap (value I table) (walk_still fits w)
  premises_agree keeps (suc d) {π = π} fits s w given =
      factors_agree A keeps s w
      (λ f m e. (between_true I table f.from f.to).0 (given (ends_of f) (at_premise table d (ends_of f) π (own_at m e refl))))
      (λ f m e h n ρ o a b w'. let of = factor_hop_of w m n in premises_agree keeps d (older_fits fits of) (older_sound ts ls table s of) w' (λ p k. given p (at_premise table d p π (parent_at_is m e n o k))))

  -- (b) A gives each path clause
  pub clauses_hold : Keeps A → (d : ℕ) (c : Clause) {G : Graph} {u v : ℕ} {π : Path} → length G ≤ d → SoundGraph ts ls table G → Walk G u v π → Memᴰ c (path_clauses d table π) → TrueClause I table c
  clauses_hold keeps zero c {π = π} fits s w m = absurd (no_clause table c π m)
  clauses_hold keeps (suc d) c {G} {π = π} fits s w m = go (clause_at table d c π m) (λ H a b ρ fits' s' w' k. clauses_hold keeps d c fits' s' w' k)
    where
      go : ClauseAt table d c π → ((H : Graph) (a b : ℕ) (ρ : Path) → length H ≤ d → SoundGraph ts ls table H → Walk H a b ρ → Memᴰ c (path_clauses d table ρ) → TrueClause I table c) → TrueClause I table c
      go (inside_at {h = h} {π' = ρ} k e n o x) ih =
          let of = factor_hop_of w k n in
          let r = parent_below ts ls table s of ρ o in
          ih h.older r.0 r.1 ρ (older_fits fits of) (older_sound ts ls table s of) r.4 x
      go (whole_at {f = f} k e q) ih =
          subst (TrueClause I table) (sym q)
          (λ given. (between_true I table f.from f.to).1 (stretch_agree A keeps s (factor_walk w k) (λ h n. (factors_stretch π k).one_colour h n ∙ e) (λ h n ρ o a b w'. let of = factor_hop_of w k n in premises_agree keeps d (older_fits fits of) (older_sound ts ls table s of) w' (λ p x. given p (premise_edge table d f n o x)))))
      go (under_at {h = h} {p = p} k e n o x y) ih =
          let of = factor_hop_of w k n in
          ih h.older p.left p.right (path h.older p.left p.right) (older_fits fits of) (older_sound ts ls table s of) (premise_below ts ls table d p s of o x) y

  -- (c) B and the path clauses of a walk give its ends equal
  pub clauses_agree : Keeps B → (d : ℕ) {G : Graph} {u v : ℕ} {π : Path} → length G ≤ d → SoundGraph ts ls table G → Walk G u v π → TrueClauses I table (path_clauses d table π) → value I table u ≡ value I table v
  clauses_agree keeps zero fits s w given = ap (value I table) (walk_still fits w)
  clauses_agree keeps (suc d) {π = π} fits s w given =
      factors_agree B keeps s w
      (λ f m e. (between_true I table f.from f.to).0 (given (factor_clause table d f) (at_clause table d (factor_clause table d f) π (whole_at m e refl)) (λ p k. let q = edge_premise table d f k in let of = factor_hop_of w m q.2 in clauses_agree keeps d (older_fits fits of) (older_sound ts ls table s of) (premise_below ts ls table d p s of q.3 q.4) (λ c n. given c (at_clause table d c π (under_at m e q.2 q.3 q.4 n))))))
      (λ f m e h n ρ o a b w'. let of = factor_hop_of w m n in clauses_agree keeps d (older_fits fits of) (older_sound ts ls table s of) w' (λ c k. given c (at_clause table d c π (inside_at m e n o k))))

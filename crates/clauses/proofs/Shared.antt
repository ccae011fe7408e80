-- Colours along a walk: between A-colourable ends all premises are shared, between B-colourable ends all terms of the path clauses are.
use mathlib.Core.List.{List, [], ◌∷◌, Memᴰ}
use mathlib.Core.Logic.{◌⊎◌, inl, inr, ⊎_elim}
use mathlib.Core.Path.{◌≡◌, refl, sym, subst, ◌∙◌}
use Prim.Native.Nat.{ℕ, zero, suc}
use lib.Dec.{T}
use Rattle.tables.specs.Words.{Pair}
use Rattle.tables.specs.Terms.{Term}
use Rattle.tables.specs.Parts.{LowerArguments}
use Rattle.tables.specs.declared.Literal.{Literal}
use Rattle.tables.specs.declared.Side.{Side}
use Rattle.tables.specs.declared.Side.TheVariants.{A, B}
use Rattle.tables.specs.Colours.{colourable}
use Rattle.tables.proofs.Colours.{colourable_symbol, symbols_colourable, colourable_argument}
use Rattle.closure.specs.Graph.{Graph, Hop, Path, path, parent_paths}
use Rattle.closure.specs.Walks.{HopOf, Walk, stay, hop}
use Rattle.closure.proofs.Walking.Walks.{walk_hop}
use Rattle.closure.proofs.Walking.Invariant.{SoundGraph}
use Rattle.closure.proofs.Walking.Parents.{hop_sound}
use Rattle.clauses.specs.Clauses.{between, Clause}
use Rattle.clauses.specs.Factors.{Factor, factors}
use Rattle.clauses.specs.Premises.{ends_of, premises, path_clauses}
use Rattle.clauses.specs.Truth.{SharedTerm, SharedPair, SharedClause}
use Rattle.clauses.proofs.Factors.{Alternate, last_one, other_next, alternate_rest, Chain, done, link, factors_stretch, factors_alternate, factor_walk, walk_chain}
use Rattle.clauses.proofs.Members.{factor_clause, PremiseAt, own_at, parent_at_is, ClauseAt, inside_at, whole_at, under_at, premise_at, clause_at, edge_premise, no_premise, no_clause}
use Rattle.clauses.proofs.Truths.{between_sides, other, factor_hop_of, older_sound, parent_below, premise_below}

-- what holds at both ends of each hop of a walk and at one end of the walk holds at its other end
pub walk_carries {ℓ} : (P : ℕ → Type ℓ) {G : Graph} {u v : ℕ} {π : Path} → Walk G u v π → ((h : Hop) → Memᴰ h π → P h.from × P h.to) → (P u → P v) × (P v → P u)
walk_carries P (stay q) g = (λ x. subst P q x, λ x. subst P (sym q) x)
walk_carries P (hop {h = h} k q w) g =
    let here = g h (Memᴰ.head refl) in
    (λ x. (walk_carries P w (λ y m. g y (Memᴰ.tail m))).0 here.1, λ x. subst P (sym q) here.0)

-- of two different colours one is X
one_is : (X Y Z : Side) → (Y ≡ Z → ⊥) → (Y ≡ X) ⊎ (Z ≡ X)
one_is A A Z d = inl refl
one_is B B Z d = inl refl
one_is A B A d = inr refl
one_is A B B d = absurd (d refl)
one_is B A A d = absurd (d refl)
one_is B A B d = inr refl

module _ (ts : List Term) (ls : List Literal) (table : List Term) where
  -- the term is colourable in X
  abbrev pub Coloured : Side → ℕ → Type 0
  Coloured X t = T (colourable ts ls X table t)

  -- both are
  abbrev pub BothColoured : Side → ℕ → ℕ → Type 0
  BothColoured X s t = Coloured X s × Coloured X t

  -- a term that is colourable in both is shared
  pub both_shared : (t : ℕ) → Coloured A t → Coloured B t → SharedTerm ts ls table t
  both_shared t a b f m = (colourable_symbol ts ls A table t f a m, colourable_symbol ts ls B table t f b m)

  -- so is the equality of two such terms
  pub between_shared : (u v : ℕ) → BothColoured A u v → BothColoured B u v → SharedPair ts ls table (between u v)
  between_shared u v a b =
      let x = both_shared u a.0 b.0 in
      let y = both_shared v a.1 b.1 in
      between_sides (λ s t. SharedTerm ts ls table s × SharedTerm ts ls table t) u v (x, y) (y, x)

  -- a shared term is colourable in B
  pub shared_coloured : (t : ℕ) → SharedTerm ts ls table t → Coloured B t
  shared_coloured t s = symbols_colourable ts ls B table t (λ f m. (s f m).1)

  -- a walk over hops of colour X has both ends colourable in X where it has one
  pub walk_coloured : (X : Side) {G : Graph} {u v : ℕ} {π : Path} → SoundGraph ts ls table G → Walk G u v π → ((h : Hop) → Memᴰ h π → h.colour ≡ X) → (Coloured X u → Coloured X v) × (Coloured X v → Coloured X u)
  walk_coloured X s w colours =
      walk_carries (Coloured X) w
      (λ h m. let k = hop_sound ts ls table (walk_hop w m) s in (subst (λ (Y : Side). Coloured Y h.from) (colours h m) k.from_coloured, subst (λ (Y : Side). Coloured Y h.to) (colours h m) k.to_coloured))

  -- the ends of a factor are colourable in its own colour
  pub factor_coloured : {G : Graph} {u v : ℕ} {π : Path} {f : Factor} → SoundGraph ts ls table G → Walk G u v π → Memᴰ f (factors π) → BothColoured f.colour f.from f.to
  factor_coloured {π = π} {f = f} s w m =
      let x = factors_stretch π m in
      let n = subst (λ (ρ : Path). Memᴰ x.first ρ) (sym x.hops_are) (Memᴰ.head refl) in
      let k = hop_sound ts ls table (walk_hop (factor_walk w m) n) s in
      let start = subst (λ (Y : Side). Coloured Y f.from) (x.one_colour x.first n) (subst (Coloured x.first.colour) (sym x.from_first_is) k.from_coloured) in
      (start, (walk_coloured f.colour s (factor_walk w m) x.one_colour).0 start)

  module _ (X : Side) (G : Graph) (v : ℕ) where
    -- between two factors of different colour stands a term that is colourable in both; the last factor ends where the chain does
    boundary : (f : Factor) (fs : List Factor) → Chain G f.to v fs → Alternate (f ∷ fs) → ((g : Factor) → Memᴰ g (f ∷ fs) → BothColoured g.colour g.from g.to) → Coloured X v → Coloured X f.to
    boundary f [] (done q) last_one own end = subst (Coloured X) (sym q) end
    boundary f (g ∷ fs) (link q w c) (other_next d a) own end =
        ⊎_elim (λ e. subst (λ (Y : Side). Coloured Y f.to) e (own f (Memᴰ.head refl)).1)
        (λ e. subst (Coloured X) (sym q) (subst (λ (Y : Side). Coloured Y g.from) e (own g (Memᴰ.tail (Memᴰ.head refl))).0)) (one_is X f.colour g.colour d)

    -- so all factors have the colour of both ends of the chain at their ends
    chain_coloured : {u : ℕ} {fs : List Factor} → Chain G u v fs → Alternate fs → ((g : Factor) → Memᴰ g fs → BothColoured g.colour g.from g.to) → Coloured X u → Coloured X v → (f : Factor) → Memᴰ f fs → BothColoured X f.from f.to
    chain_coloured (done {u = u} _) alt own start end f absent = elim absent [ ]
    chain_coloured (link {f = g} {fs = fs} q w c) alt own start end f (Memᴰ.head e) =
        subst (λ (x : Factor). BothColoured X x.from x.to) (sym e) (subst (Coloured X) q start, boundary g fs c alt own end)
    chain_coloured (link {f = g} {fs = fs} q w c) alt own start end f (Memᴰ.tail m) =
        chain_coloured c (alternate_rest alt) (λ x n. own x (Memᴰ.tail n)) (boundary g fs c alt own end) end f m

  -- between ends that are colourable in X the ends of every factor are
  pub factor_ends_coloured : (X : Side) {G : Graph} {u v : ℕ} {π : Path} {f : Factor} → SoundGraph ts ls table G → Walk G u v π → BothColoured X u v → Memᴰ f (factors π) → BothColoured X f.from f.to
  factor_ends_coloured X {G} {v = v} {π = π} {f = f} s w ends m =
      chain_coloured X G v (walk_chain w) (factors_alternate π) (λ g n. factor_coloured s w n) ends.0 ends.1 f m

  -- a factor whose colour is not that of the ends of the walk has shared ends
  pub factor_shared : {G : Graph} {u v : ℕ} {π : Path} {f : Factor} (X : Side) → SoundGraph ts ls table G → Walk G u v π → BothColoured X u v → Memᴰ f (factors π) → f.colour ≡ other X → SharedPair ts ls table (ends_of f)
  factor_shared {f = f} X s w ends m e = go X e (factor_ends_coloured X s w ends m) (factor_coloured s w m)
    where
      go : (X : Side) → f.colour ≡ other X → BothColoured X f.from f.to → BothColoured f.colour f.from f.to → SharedPair ts ls table (ends_of f)
      go A q x y = between_shared f.from f.to x (subst (λ (Y : Side). BothColoured Y f.from f.to) q y)
      go B q x y = between_shared f.from f.to (subst (λ (Y : Side). BothColoured Y f.from f.to) q y) x

module _ (ts : List Term) (ls : List Literal) (table : List Term) (low : LowerArguments table) where
  -- a parent path of a hop of colour X has ends that are colourable in X
  pub parent_coloured : (X : Side) {h : Hop} {G : Graph} → SoundGraph ts ls table G → HopOf h G → h.colour ≡ X → (ρ : Path) → Memᴰ ρ (parent_paths table h) → (a : ℕ) × (b : ℕ) × Walk h.older a b ρ × BothColoured ts ls table X a b
  parent_coloured X {h} s of e ρ o =
      let k = hop_sound ts ls table of s in
      let r = parent_below ts ls table s of ρ o in
      let coloured : (Y : Side) → h.colour ≡ Y → BothColoured ts ls table Y r.0 r.1 = λ Y q. (colourable_argument ts ls Y table low h.from r.0 k.from_within (subst (λ (Z : Side). Coloured ts ls table Z h.from) q k.from_coloured) r.2, colourable_argument ts ls Y table low h.to r.1 k.to_within (subst (λ (Z : Side). Coloured ts ls table Z h.to) q k.to_coloured) r.3) in
      (r.0, r.1, r.4, coloured X e)

  -- (d) between A-colourable ends all premises are shared
  pub premises_shared : (d : ℕ) (p : Pair) {G : Graph} {u v : ℕ} {π : Path} → SoundGraph ts ls table G → Walk G u v π → BothColoured ts ls table A u v → Memᴰ p (premises d table π) → SharedPair ts ls table p
  premises_shared zero p {π = π} s w ends m = absurd (no_premise table p π m)
  premises_shared (suc d) p {π = π} s w ends m = go (premise_at table d p π m) (λ H a b ρ s' w' ends' k. premises_shared d p s' w' ends' k)
    where
      go : PremiseAt table d p π → ((H : Graph) (a b : ℕ) (ρ : Path) → SoundGraph ts ls table H → Walk H a b ρ → BothColoured ts ls table A a b → Memᴰ p (premises d table ρ) → SharedPair ts ls table p) → SharedPair ts ls table p
      go (own_at k e q) ih = subst (SharedPair ts ls table) (sym q) (factor_shared ts ls table A s w ends k e)
      go (parent_at_is {h = h} {π' = ρ} k e n o x) ih =
          let of = factor_hop_of w k n in
          let r = parent_coloured A s of ((factors_stretch π k).one_colour h n ∙ e) ρ o in
          ih h.older r.0 r.1 ρ (older_sound ts ls table s of) r.2 r.3 x

  -- so the premises of an A-factor's edges are shared, whatever the ends of the walk are
  pub edge_premise_shared : (d : ℕ) (p : Pair) {G : Graph} {u v : ℕ} {π ρ : Path} {f : Factor} {h : Hop} → SoundGraph ts ls table G → Walk G u v π → Memᴰ f (factors π) → f.colour ≡ A → Memᴰ h f.hops → Memᴰ ρ (parent_paths table h) → Memᴰ p (premises d table ρ) → SharedPair ts ls table p
  edge_premise_shared d p {π = π} {ρ = ρ} {h = h} s w k e n o x =
      let of = factor_hop_of w k n in
      let r = parent_coloured A s of ((factors_stretch π k).one_colour h n ∙ e) ρ o in
      premises_shared d p (older_sound ts ls table s of) r.2 r.3 x

  -- and between B-colourable ends all terms of the path clauses are
  pub clauses_shared : (d : ℕ) (c : Clause) {G : Graph} {u v : ℕ} {π : Path} → SoundGraph ts ls table G → Walk G u v π → BothColoured ts ls table B u v → Memᴰ c (path_clauses d table π) → SharedClause ts ls table c
  clauses_shared zero c {π = π} s w ends m = absurd (no_clause table c π m)
  clauses_shared (suc d) c {π = π} s w ends m = go (clause_at table d c π m) (λ H a b ρ s' w' ends' k. clauses_shared d c s' w' ends' k)
    where
      go : ClauseAt table d c π → ((H : Graph) (a b : ℕ) (ρ : Path) → SoundGraph ts ls table H → Walk H a b ρ → BothColoured ts ls table B a b → Memᴰ c (path_clauses d table ρ) → SharedClause ts ls table c) → SharedClause ts ls table c
      go (inside_at {h = h} {π' = ρ} k e n o x) ih =
          let of = factor_hop_of w k n in
          let r = parent_coloured B s of ((factors_stretch π k).one_colour h n ∙ e) ρ o in
          ih h.older r.0 r.1 ρ (older_sound ts ls table s of) r.2 r.3 x
      go (whole_at {f = f} k e q) ih =
          let parts : SharedClause ts ls table (factor_clause table d f) = (λ p m. let r = edge_premise table d f m in edge_premise_shared d p s w k e r.2 r.3 r.4, factor_shared ts ls table B s w ends k e) in
          subst (SharedClause ts ls table) (sym q) parts
      go (under_at {h = h} {p = p} k e n o x y) ih =
          let of = factor_hop_of w k n in
          let shared = edge_premise_shared d p s w k e n o x in
          ih h.older p.left p.right (path h.older p.left p.right) (older_sound ts ls table s of) (premise_below ts ls table d p s of o x) (shared_coloured ts ls table p.left shared.0, shared_coloured ts ls table p.right shared.1) y

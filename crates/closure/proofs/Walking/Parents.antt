-- Laws of one hop of a sound graph: what stands behind it as it is walked, its colour, and its parent paths.
use mathlib.Core.Bool.{Bool, true, false, cond}
use mathlib.Core.List.Memᴰ
use mathlib.Core.List.{List, [], ◌∷◌, ◌++◌, map, zip_with, Memᴰ}
use mathlib.Core.Logic.{◌⊎◌, inl, inr, ⊎_elim}
use mathlib.Core.Path.{◌≡◌, refl, sym, ap, ap₂, subst, ◌∙◌}
use Prim.Native.Nat.{ℕ, ◌<◌}
use lib.Dec.{T, eqb, eqb→eq}
use lib.ListN.{length}
use Rattle.tables.specs.Terms.{Term, term_at}
use Rattle.tables.specs.declared.Literal.{Literal}
use Rattle.tables.specs.declared.Kind.TheVariants.{Equal}
use Rattle.tables.specs.Colours.{colourable, edge_colourable}
use Rattle.tables.proofs.Words.{and_left, and_right, and_both}
use Rattle.closure.specs.Graph.{Edge, EdgeKind, basic, derived, Graph, Hop, Path, forth, back, joined, path, joined_pairwise, paths_between, parents_of, parent_paths}
use Rattle.closure.specs.Walks.{HopOf, onward, backward, earlier, Walk}
use Rattle.closure.specs.Steps.{congruent, HasSides}
use Rattle.closure.proofs.Walking.Joined.{joined_sym}
use Rattle.closure.proofs.Walking.Walks.{hop_each, path_walk}
use Rattle.closure.proofs.Walking.Invariant.{Behind, SoundEdge, SoundGraph}

-- ---- arguments that are joined pair by pair

-- joined pair by pair holds the other way round too
pub joined_pairwise_sym : (G : Graph) (xs ys : List ℕ) → T (joined_pairwise G xs ys) → T (joined_pairwise G ys xs)
unfolding joined_pairwise
joined_pairwise_sym G [] [] h = tt
joined_pairwise_sym G [] (y ∷ ys) h = h
joined_pairwise_sym G (x ∷ xs) [] h = h
joined_pairwise_sym G (x ∷ xs) (y ∷ ys) h =
    and_both (joined G y x) (joined_pairwise G ys xs) (joined_sym G x y (and_left (joined G x y) (joined_pairwise G xs ys) h)) (joined_pairwise_sym G xs ys (and_right (joined G x y) (joined_pairwise G xs ys) h))

-- each of the paths between them is the path from a term of the one list to a term of the other that it is joined to
pub between_path : (G : Graph) (xs ys : List ℕ) → T (joined_pairwise G xs ys) → {π : Path} → Memᴰ π (paths_between G xs ys) → (a : ℕ) × (b : ℕ) × Memᴰ a xs × Memᴰ b ys × T (joined G a b) × (π ≡ path G a b)
unfolding joined_pairwise paths_between zip_with
between_path G [] [] h m = absurd (Memᴰ.not-nil m)
between_path G [] (y ∷ ys) h m = absurd h
between_path G (x ∷ xs) [] h m = absurd h
between_path G (x ∷ xs) (y ∷ ys) h m =
    ⊎_elim (λ e. (x, y, Memᴰ.head refl, Memᴰ.head refl, and_left (joined G x y) (joined_pairwise G xs ys) h, e))
    (λ k. let r = between_path G xs ys (and_right (joined G x y) (joined_pairwise G xs ys) h) k in (r.0, r.1, Memᴰ.tail r.2, Memᴰ.tail r.3, r.4, r.5))
    (Memᴰ.cases_cons m)

-- a function that has one value at both ends of each of these paths has the same values on both lists
pub between_agree {ℓ} : {C : Type ℓ} (f : ℕ → C) (G : Graph) (xs ys : List ℕ) → T (joined_pairwise G xs ys) → ((π : Path) → Memᴰ π (paths_between G xs ys) → (a b : ℕ) → Walk G a b π → f a ≡ f b) → map f xs ≡ map f ys
unfolding joined_pairwise paths_between zip_with
between_agree f G [] [] h g = refl
between_agree f G [] (y ∷ ys) h g = absurd h
between_agree f G (x ∷ xs) [] h g = absurd h
between_agree f G (x ∷ xs) (y ∷ ys) h g =
    ap₂ (λ c cs. c ∷ cs)
    (g (path G x y) (Memᴰ.head refl) x y (path_walk G x y (and_left (joined G x y) (joined_pairwise G xs ys) h)))
    (between_agree f G xs ys (and_right (joined G x y) (joined_pairwise G xs ys) h) (λ π m. g π (Memᴰ.tail m)))

-- ---- one hop

-- the edge as it is walked
abbrev pub walked : Hop → Edge
walked h = record { left = h.from; right = h.to; colour = h.colour; kind = h.kind }

-- a hop over an edge as the steps make it: in both directions the same stands behind it
pub record SoundHop (ts : List Term) (ls : List Literal) (table : List Term) (h : Hop) : Type 0 where
  pub behind : Behind ls table h.older (walked h) h.kind
  pub from_coloured : T (colourable ts ls h.colour table h.from)
  pub to_coloured : T (colourable ts ls h.colour table h.to)
  pub from_within : h.from < length table
  pub to_within : h.to < length table

module _ (ts : List Term) (ls : List Literal) (table : List Term) where
  -- what stands behind an edge stands behind it walked from its right end
  behind_back : (G : Graph) (e : Edge) (k : EdgeKind) → Behind ls table G e k → Behind ls table G (walked (back e G)) k
  unfolding congruent
  behind_back G e basic b = (b.0, b.1, b.2, b.3, ⊎_elim inr inl b.4)
  behind_back G e derived b =
      let s = term_at table e.left in
      let t = term_at table e.right in
      let same = eqb→eq s.symbol t.symbol (and_left (eqb s.symbol t.symbol) (joined_pairwise G s.arguments t.arguments) b) in
      and_both (eqb t.symbol s.symbol) (joined_pairwise G t.arguments s.arguments)
      (subst (λ (x : ℕ). T (eqb x s.symbol)) same (lib.Dec.eqb_refl s.symbol))
      (joined_pairwise_sym G s.arguments t.arguments (and_right (eqb s.symbol t.symbol) (joined_pairwise G s.arguments t.arguments) b))

  -- every hop of a sound graph is such a hop
  pub hop_sound : {h : Hop} {G : Graph} → HopOf h G → SoundGraph ts ls table G → SoundHop ts ls table h
  unfolding edge_colourable
  hop_sound {h} k sound = go (hop_each (SoundEdge ts ls table) k sound)
    where
      left_coloured : (e : Edge) → T (edge_colourable ts ls e.colour table e.left e.right) → T (colourable ts ls e.colour table e.left)
      left_coloured e = and_left (colourable ts ls e.colour table e.left) (colourable ts ls e.colour table e.right)

      right_coloured : (e : Edge) → T (edge_colourable ts ls e.colour table e.left e.right) → T (colourable ts ls e.colour table e.right)
      right_coloured e = and_right (colourable ts ls e.colour table e.left) (colourable ts ls e.colour table e.right)

      go : (e : Edge) × SoundEdge ts ls table h.older e × ((h ≡ forth e h.older) ⊎ (h ≡ back e h.older)) → SoundHop ts ls table h
      go r =
          let e = r.0 in
          let s = r.1 in
          let forward : SoundHop ts ls table (forth e h.older) = record { behind = s.behind; from_coloured = left_coloured e s.coloured; to_coloured = right_coloured e s.coloured; from_within = s.left_within; to_within = s.right_within } in
          let turned : SoundHop ts ls table (back e h.older) = record { behind = behind_back h.older e e.kind s.behind; from_coloured = right_coloured e s.coloured; to_coloured = left_coloured e s.coloured; from_within = s.right_within; to_within = s.left_within } in
          ⊎_elim (λ q. subst (SoundHop ts ls table) (sym q) forward) (λ q. subst (SoundHop ts ls table) (sym q) turned) r.2

  -- only a derived edge has parent paths: they are the paths between the arguments of its ends, which the older edges join pair by pair
  pub parents_are : {h : Hop} → SoundHop ts ls table h → {π : Path} → Memᴰ π (parent_paths table h) → (h.kind ≡ derived) × T (joined_pairwise h.older (term_at table h.from).arguments (term_at table h.to).arguments) × Memᴰ π (paths_between h.older (term_at table h.from).arguments (term_at table h.to).arguments)
  unfolding parent_paths parents_of congruent
  parents_are {h} s {π} m = go h.kind refl s.behind m
    where
      as' : List ℕ
      as' = (term_at table h.from).arguments

      bs : List ℕ
      bs = (term_at table h.to).arguments

      go : (k : EdgeKind) → h.kind ≡ k → Behind ls table h.older (walked h) k → Memᴰ π (parents_of k (paths_between h.older as' bs)) → (h.kind ≡ derived) × T (joined_pairwise h.older as' bs) × Memᴰ π (paths_between h.older as' bs)
      go basic e b n = absurd (Memᴰ.not-nil n)
      go derived e b n = (e, and_right (eqb (term_at table h.from).symbol (term_at table h.to).symbol) (joined_pairwise h.older as' bs) b, n)

  -- a parent path is the path over older edges between an argument of the one end and one of the other, which these join
  pub parent_ends : {h : Hop} → SoundHop ts ls table h → {π : Path} → Memᴰ π (parent_paths table h) → (a : ℕ) × (b : ℕ) × Memᴰ a (term_at table h.from).arguments × Memᴰ b (term_at table h.to).arguments × T (joined h.older a b) × (π ≡ path h.older a b)
  parent_ends {h} s m = let r = parents_are s m in between_path h.older (term_at table h.from).arguments (term_at table h.to).arguments r.1 r.2

  -- so it is a walk between them
  pub parent_walk : {h : Hop} → SoundHop ts ls table h → (π : Path) → Memᴰ π (parent_paths table h) → (a : ℕ) × (b : ℕ) × Memᴰ a (term_at table h.from).arguments × Memᴰ b (term_at table h.to).arguments × Walk h.older a b π
  parent_walk {h} s π m = let r = parent_ends s m in (r.0, r.1, r.2, r.3, subst (Walk h.older r.0 r.1) (sym r.5) (path_walk h.older r.0 r.1 r.4))

  -- A function of terms has one value at both ends of a hop when it has on both sides of each equality record of the hop's colour, follows symbol
  -- and arguments, and has one value at both ends of each parent path.
  pub hop_agree {ℓ} : {C : Type ℓ} (f : ℕ → C) {h : Hop} → SoundHop ts ls table h → ((l : Literal) → Memᴰ l ls → l.kind ≡ Equal → l.side ≡ h.colour → f l.left ≡ f l.right) → ((s t : ℕ) → s < length table → t < length table → (term_at table s).symbol ≡ (term_at table t).symbol → map f (term_at table s).arguments ≡ map f (term_at table t).arguments → f s ≡ f t) → ((π : Path) → Memᴰ π (parent_paths table h) → (a b : ℕ) → Walk h.older a b π → f a ≡ f b) → f h.from ≡ f h.to
  unfolding parent_paths parents_of congruent
  hop_agree f {h} s records follows parents = go h.kind s.behind parents
    where
      as' : List ℕ
      as' = (term_at table h.from).arguments

      bs : List ℕ
      bs = (term_at table h.to).arguments

      by_record : (l : Literal) → f l.left ≡ f l.right → HasSides l h.from h.to → f h.from ≡ f h.to
      by_record l q (inl e) = sym (ap f e.0) ∙ q ∙ ap f e.1
      by_record l q (inr e) = sym (ap f e.1) ∙ sym q ∙ ap f e.0

      go : (k : EdgeKind) → Behind ls table h.older (walked h) k → ((π : Path) → Memᴰ π (parents_of k (paths_between h.older as' bs)) → (a b : ℕ) → Walk h.older a b π → f a ≡ f b) → f h.from ≡ f h.to
      go basic b g = by_record b.0 (records b.0 b.1 b.2 b.3) b.4
      go derived b g =
          follows h.from h.to s.from_within s.to_within
          (eqb→eq (term_at table h.from).symbol (term_at table h.to).symbol (and_left (eqb (term_at table h.from).symbol (term_at table h.to).symbol) (joined_pairwise h.older as' bs) b))
          (between_agree f h.older as' bs (and_right (eqb (term_at table h.from).symbol (term_at table h.to).symbol) (joined_pairwise h.older as' bs) b) g)

-- ---- the hops of paths, joined or not

-- every hop of a path is a hop of its graph
pub path_hop : (G : Graph) (u v : ℕ) {h : Hop} → Memᴰ h (path G u v) → HopOf h G
unfolding path
path_hop [] u v m = absurd (Memᴰ.not-nil m)
path_hop (e ∷ G) u v {h} m = go (joined G u v) (joined G u e.left) m (λ x y k. earlier (path_hop G x y k))
  where
    by_way : Hop → ℕ → ℕ → ℕ → ℕ → Path
    by_way g x y z w = path G x y ++ (g ∷ path G z w)

    across : (g : Hop) (x y z w : ℕ) → (h ≡ g → HopOf h (e ∷ G)) → ((x y : ℕ) → Memᴰ h (path G x y) → HopOf h (e ∷ G)) → Memᴰ h (by_way g x y z w) → HopOf h (e ∷ G)
    across g x y z w edge old n = ⊎_elim (λ k. old x y k) (λ k. ⊎_elim edge (λ o. old z w o) (Memᴰ.cases_cons k)) (Memᴰ.append_cases (path G x y) n)

    go : (b c : Bool) → Memᴰ h (cond b (path G u v) (cond c (by_way (forth e G) u e.left e.right v) (by_way (back e G) u e.right e.left v))) → ((x y : ℕ) → Memᴰ h (path G x y) → HopOf h (e ∷ G)) → HopOf h (e ∷ G)
    go true c n old = old u v n
    go false true n old = across (forth e G) u e.left e.right v onward old n
    go false false n old = across (back e G) u e.right e.left v backward old n

-- every hop of the paths between two lists is a hop of the graph
between_hop : (G : Graph) (xs ys : List ℕ) {π : Path} {g : Hop} → Memᴰ π (paths_between G xs ys) → Memᴰ g π → HopOf g G
unfolding paths_between zip_with
between_hop G [] [] m k = absurd (Memᴰ.not-nil m)
between_hop G [] (y ∷ ys) m k = absurd (Memᴰ.not-nil m)
between_hop G (x ∷ xs) [] m k = absurd (Memᴰ.not-nil m)
between_hop G (x ∷ xs) (y ∷ ys) {g = g} m k = ⊎_elim (λ e. path_hop G x y (subst (λ (ρ : Path). Memᴰ g ρ) e k)) (λ n. between_hop G xs ys n k) (Memᴰ.cases_cons m)

-- "A parent path has only edges that are older than its edge."
pub parent_hop : (table : List Term) (h : Hop) {π : Path} {g : Hop} → Memᴰ π (parent_paths table h) → Memᴰ g π → HopOf g h.older
unfolding parent_paths parents_of
parent_hop table h {π} {g} m k = go h.kind m
  where
    go : (kind : EdgeKind) → Memᴰ π (parents_of kind (paths_between h.older (term_at table h.from).arguments (term_at table h.to).arguments)) → HopOf g h.older
    go basic n = absurd (Memᴰ.not-nil n)
    go derived n = between_hop h.older (term_at table h.from).arguments (term_at table h.to).arguments n k

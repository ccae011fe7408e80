-- Laws of a derived hop, place by place: the arguments of its ends are joined in pairs, and its parent paths are the paths between these.
use mathlib.Core.List.Memᴰ
use mathlib.Core.List.{List, [], ◌∷◌, zip_with, Memᴰ}
use mathlib.Core.Logic.{⊎_elim}
use mathlib.Core.Path.{◌≡◌, refl, sym, ap, ap₂, subst, ◌∙◌}
use Prim.Native.Nat.{ℕ, zero, suc, ◌<◌}
use native.Mathlib.Nat.{not-suc-le-zero}
use native.Mathlib.Omega.{arith}
use lib.Dec.{T, eqb}
use lib.ListN.{length, get_or}
use Rattle.tables.specs.Terms.{Term, term_at}
use Rattle.tables.specs.declared.Literal.{Literal}
use Rattle.tables.proofs.Words.{and_left, and_right}
use Rattle.closure.specs.Graph.{EdgeKind, basic, derived, Graph, Hop, Path, joined, path, joined_pairwise, paths_between, parents_of, parent_paths}
use Rattle.closure.specs.Steps.{congruent}
use Rattle.closure.proofs.Walking.Invariant.{Behind}
use Rattle.closure.proofs.Walking.Parents.{SoundHop, walked}

-- ---- two lists

-- arguments that are joined pair by pair are as many, and joined at each place
pub joined_at : (H : Graph) (xs ys : List ℕ) → T (joined_pairwise H xs ys) → (k : ℕ) → k < length xs → (k < length ys) × T (joined H (get_or xs k 0) (get_or ys k 0))
unfolding joined_pairwise
joined_at H [] ys j k h = absurd (not-suc-le-zero h)
joined_at H (x ∷ xs) [] j k h = absurd j
joined_at H (x ∷ xs) (y ∷ ys) j zero h = (omega arith, and_left (joined H x y) (joined_pairwise H xs ys) j)
joined_at H (x ∷ xs) (y ∷ ys) j (suc k) h =
    let r = joined_at H xs ys (and_right (joined H x y) (joined_pairwise H xs ys) j) k (omega (arith, h)) in
    (omega (arith, r.0), r.1)

-- the path at each place is one of the paths between them
between_at : (H : Graph) (xs ys : List ℕ) (k : ℕ) → k < length xs → k < length ys → Memᴰ (path H (get_or xs k 0) (get_or ys k 0)) (paths_between H xs ys)
unfolding paths_between zip_with
between_at H [] ys k h l = absurd (not-suc-le-zero h)
between_at H (x ∷ xs) [] k h l = absurd (not-suc-le-zero l)
between_at H (x ∷ xs) (y ∷ ys) zero h l = Memᴰ.head refl
between_at H (x ∷ xs) (y ∷ ys) (suc k) h l = Memᴰ.tail (between_at H xs ys k (omega (arith, h)) (omega (arith, l)))

-- and there is no other
at_between : (H : Graph) (xs ys : List ℕ) {π : Path} → Memᴰ π (paths_between H xs ys) → (k : ℕ) × (k < length xs) × (π ≡ path H (get_or xs k 0) (get_or ys k 0))
unfolding paths_between zip_with
at_between H [] [] m = absurd (Memᴰ.not-nil m)
at_between H [] (y ∷ ys) m = absurd (Memᴰ.not-nil m)
at_between H (x ∷ xs) [] m = absurd (Memᴰ.not-nil m)
at_between H (x ∷ xs) (y ∷ ys) {π} m =
    ⊎_elim (λ e. at_first e) (λ n. let r = at_between H xs ys n in (suc r.0, omega (arith, r.1), r.2)) (Memᴰ.cases_cons m)
  where
    at_first : π ≡ path H x y → (k : ℕ) × (k < length (x ∷ xs)) × (π ≡ path H (get_or (x ∷ xs) k 0) (get_or (y ∷ ys) k 0))
    at_first e = (0, omega arith, e)

-- ---- a hop

-- a hop that is not derived has no parent path
pub basic_parents : (table : List Term) (h : Hop) → h.kind ≡ basic → {π : Path} → Memᴰ π (parent_paths table h) → ⊥
unfolding parent_paths parents_of
basic_parents table h is {π} m =
    Memᴰ.not-nil (subst (λ (k : EdgeKind). Memᴰ π (parents_of k (paths_between h.older (term_at table h.from).arguments (term_at table h.to).arguments))) is m)

-- a derived hop of a sound graph, its ends under the names u and v
module _ (ts : List Term) (ls : List Literal) (table : List Term) (h : Hop) (sound : SoundHop ts ls table h) (is : h.kind ≡ derived) (u v : ℕ) (from : u ≡ h.from) (to : v ≡ h.to) where
  -- the arguments of its first end
  abbrev xs : List ℕ
  xs = (term_at table u).arguments

  -- those of its second
  abbrev ys : List ℕ
  ys = (term_at table v).arguments

  -- they are joined pair by pair
  pairwise : T (joined_pairwise h.older xs ys)
  unfolding congruent
  pairwise =
      let b = subst (Behind ls table h.older (walked h)) is sound.behind in
      subst (λ (x : ℕ). T (joined_pairwise h.older (term_at table x).arguments ys)) (sym from)
      (subst (λ (x : ℕ). T (joined_pairwise h.older (term_at table h.from).arguments (term_at table x).arguments)) (sym to)
      (and_right (eqb (term_at table h.from).symbol (term_at table h.to).symbol) (joined_pairwise h.older (term_at table h.from).arguments (term_at table h.to).arguments) b))

  -- its parent paths are the paths between them
  parents_are : parent_paths table h ≡ paths_between h.older xs ys
  unfolding parent_paths parents_of
  parents_are =
      ap (λ (k : EdgeKind). parents_of k (paths_between h.older (term_at table h.from).arguments (term_at table h.to).arguments)) is ∙
      ap₂ (λ (x y : ℕ). paths_between h.older (term_at table x).arguments (term_at table y).arguments) (sym from) (sym to)

  -- at each place of the first the second has an argument too, and the two are joined
  pub joined_place : (k : ℕ) → k < length (term_at table u).arguments → (k < length (term_at table v).arguments) × T (joined h.older (get_or (term_at table u).arguments k 0) (get_or (term_at table v).arguments k 0))
  joined_place k l = joined_at h.older xs ys pairwise k l

  -- the path between them is a parent path
  pub place_parent : (k : ℕ) → k < length (term_at table u).arguments → Memᴰ (path h.older (get_or (term_at table u).arguments k 0) (get_or (term_at table v).arguments k 0)) (parent_paths table h)
  place_parent k l =
      subst (Memᴰ (path h.older (get_or xs k 0) (get_or ys k 0))) (sym parents_are) (between_at h.older xs ys k l (joined_place k l).0)

  -- and there is no other
  pub parent_place : {π : Path} → Memᴰ π (parent_paths table h) → (k : ℕ) × (k < length (term_at table u).arguments) × (π ≡ path h.older (get_or (term_at table u).arguments k 0) (get_or (term_at table v).arguments k 0))
  parent_place {π} m = at_between h.older xs ys (subst (Memᴰ π) parents_are m)

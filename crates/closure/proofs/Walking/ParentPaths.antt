-- Parent paths are paths of the graph, and the edge walked the other way has them backwards.
use mathlib.Core.List.Memᴰ
use mathlib.Core.List.{List, [], ◌∷◌, zip_with, Memᴰ}
use mathlib.Core.Logic.{⊎_elim}
use mathlib.Core.Path.{◌≡◌, sym, ap, subst, ◌∙◌}
use Prim.Native.Nat.{ℕ}
use lib.Dec.{T}
use Rattle.tables.specs.Terms.{Term, term_at}
use Rattle.tables.specs.declared.Literal.{Literal}
use Rattle.tables.proofs.Words.{and_left, and_right}
use Rattle.closure.specs.Graph.{Edge, EdgeKind, Graph, Hop, Path, joined, path, joined_pairwise, paths_between, parents_of, parent_paths, vertices}
use Rattle.closure.specs.Walks.{HopOf, Walk, hop, Once, new, IsPath}
use Rattle.closure.proofs.Walking.Walks.{older_joined}
use Rattle.closure.proofs.Walking.Invariant.{Each, Unjoined, Forest, SoundEdge, SoundGraph}
use Rattle.closure.proofs.Walking.OnePath.{walk_end, turned, backwards, path_is, path_back, path_older}
use Rattle.closure.proofs.Walking.Parents.{SoundHop, hop_sound, parents_are, parent_ends}

-- ---- sound graphs

-- what follows from a property of an edge holds of each edge where that property does
pub each_map : (P Q : Graph → Edge → Type 0) → ((G : Graph) (e : Edge) → P G e → Q G e) → (G : Graph) → Each P G → Each Q G
each_map P Q f [] p = tt
each_map P Q f (e ∷ G) p = (f G e p.0, each_map P Q f G p.1)

-- a graph as the steps make it has no cycle
pub sound_forest : (ts : List Term) (ls : List Literal) (table : List Term) (G : Graph) → SoundGraph ts ls table G → Forest G
sound_forest ts ls table G s = each_map (SoundEdge ts ls table) Unjoined (λ H e x. x.unjoined) G s

-- the ends of a path with a hop differ, since it stands on no vertex twice
pub path_ends_differ : {G : Graph} {u v : ℕ} {h : Hop} {π : Path} → IsPath G u v (h ∷ π) → u ≡ v → ⊥
path_ends_differ {G} {u} {v} {h} {π} p e = go p.walk p.once
  where
    go : Walk G u v (h ∷ π) → Once (u ∷ vertices h.to π) → ⊥
    go (hop k q w) (new f o) = f (subst (λ (x : ℕ). Memᴰ x (vertices h.to π)) (sym e) (walk_end w))

-- ---- parent paths

-- the paths between arguments the other way round are these backwards
pub between_back : (G : Graph) (xs ys : List ℕ) → T (joined_pairwise G xs ys) → {π : Path} → Memᴰ π (paths_between G xs ys) → Memᴰ (backwards π) (paths_between G ys xs)
unfolding joined_pairwise paths_between zip_with
between_back G [] [] h m = absurd (Memᴰ.not-nil m)
between_back G [] (y ∷ ys) h m = absurd h
between_back G (x ∷ xs) [] h m = absurd h
between_back G (x ∷ xs) (y ∷ ys) h m =
    ⊎_elim (λ e. Memᴰ.head (ap backwards e ∙ sym (path_back G x y (and_left (joined G x y) (joined_pairwise G xs ys) h))))
    (λ k. Memᴰ.tail (between_back G xs ys (and_right (joined G x y) (joined_pairwise G xs ys) h) k))
    (Memᴰ.cases_cons m)

module _ (ts : List Term) (ls : List Literal) (table : List Term) where
  -- a parent path is the path between two terms that the older edges join
  pub parent_path : {h : Hop} → SoundHop ts ls table h → {π : Path} → Memᴰ π (parent_paths table h) → (a : ℕ) × (b : ℕ) × T (joined h.older a b) × (π ≡ path h.older a b)
  parent_path s m = let r = parent_ends ts ls table s m in (r.0, r.1, r.4, r.5)

  -- so it is a path of the graph
  pub parent_in : {h : Hop} {G : Graph} → SoundGraph ts ls table G → HopOf h G → {π : Path} → Memᴰ π (parent_paths table h) → (a : ℕ) × (b : ℕ) × IsPath G a b π
  parent_in {G = G} s of m =
      let r = parent_path (hop_sound ts ls table of s) m in
      let a = r.0 in
      let b = r.1 in
      (a, b, subst (IsPath G a b) (sym (r.3 ∙ path_older a b of r.2)) (path_is G a b (older_joined a b of r.2)))

  -- the hop walked the other way has the parent path backwards
  pub parent_back : {h : Hop} → SoundHop ts ls table h → {π : Path} → Memᴰ π (parent_paths table h) → Memᴰ (backwards π) (parent_paths table (turned h))
  unfolding parent_paths parents_of
  parent_back {h} s {π} m =
      let as' = (term_at table h.from).arguments in
      let bs = (term_at table h.to).arguments in
      let r = parents_are ts ls table s m in
      subst (λ (k : EdgeKind). Memᴰ (backwards π) (parents_of k (paths_between h.older bs as'))) (sym r.0) (between_back h.older as' bs r.1 r.2)

-- "A path connects them", as a reader believes it: a walk over edges of the graph, and a walk that stands on no vertex twice.
use mathlib.Core.List.{List, [], ◌∷◌, Memᴰ}
use Rattle.std.specs.Prelude.{◌≡◌, ℕ}
use Rattle.closure.specs.Graph.{Edge, Graph, Hop, Path, forth, back, vertices}

-- the hop walks an edge of the graph, in one direction or the other
pub data HopOf (h : Hop) : Graph → Type 0 where
  onward : {e : Edge} {G : Graph} → h ≡ forth e G → HopOf h (e ∷ G)
  backward : {e : Edge} {G : Graph} → h ≡ back e G → HopOf h (e ∷ G)
  earlier : {e : Edge} {G : Graph} → HopOf h G → HopOf h (e ∷ G)

-- the hops lead from u to v, each from where the one before ended
pub data Walk (G : Graph) : ℕ → ℕ → Path → Type 0 where
  stay : {u v : ℕ} → u ≡ v → Walk G u v []
  hop : {u v : ℕ} {h : Hop} {π : Path} → HopOf h G → u ≡ h.from → Walk G h.to v π → Walk G u v (h ∷ π)

-- no member stands twice
pub data Once : List ℕ → Type 0 where
  nothing : Once []
  new : {x : ℕ} {xs : List ℕ} → (Memᴰ x xs → ⊥) → Once xs → Once (x ∷ xs)

-- a path: a walk on which no vertex stands twice
pub record IsPath (G : Graph) (u v : ℕ) (π : Path) : Type 0 where
  pub walk : Walk G u v π
  pub once : Once (vertices u π)

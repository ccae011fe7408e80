-- The rooted forest: each vertex but the roots has the edge toward its root. The root of a set of joined terms is the term that its label names.
-- Its three lists say of the numbers below 511: the neighbour toward the root, the number of the edge that leads there, and a rank that is 1 at a
-- root and falls toward it.
use Rattle.std.specs.Prelude.{List, [], ◌∷◌, ◌⊎◌, ◌≡◌, ℕ, zero, suc, ◌+◌, ◌≤◌, ◌<◌, length, get_or, set}
use Rattle.closure.specs.Graph.{Graph, Hop, label}
use Rattle.closure.specs.Walks.{HopOf}
use Rattle.graphs.specs.declared.rooting.Rooting.{Rooting}

-- an edge as the code counts: how many are older
abbrev pub number : Hop → ℕ
number h = length h.older

-- the edge toward the root
pub record Toward (G : Graph) (r : Rooting) (v : ℕ) : Type 0 where
  pub within : get_or r.toward v 0 < 511
  pub lower : get_or r.rank (get_or r.toward v 0) 0 < get_or r.rank v 0
  pub reached : 0 < get_or r.rank (get_or r.toward v 0) 0
  pub way : Hop
  pub way_of : HopOf way G
  pub way_from : way.from ≡ v
  pub way_to : way.to ≡ get_or r.toward v 0
  pub way_number : number way ≡ get_or r.by v 0

-- v is a root, or has its edge
abbrev pub Leads : Graph → Rooting → ℕ → Type 0
Leads G r v = ((label G v ≡ v) × (get_or r.rank v 0 ≡ 1)) ⊎ Toward G r v

-- the forest is that of the graph
abbrev pub RootedBy : Graph → Rooting → Type 0
RootedBy G r = (v : ℕ) → v < 511 → (0 < get_or r.rank v 0) × Leads G r v

-- how many numbers of a list are not 0
unfoldable pub positives : List ℕ → ℕ
positives [] = 0
positives (zero ∷ xs) = positives xs
positives (suc x ∷ xs) = suc (positives xs)

-- What holds while vertices are still to be reached: a vertex whose rank is not 0 is a root or has its edge, and all roots are reached. No rank is
-- greater than the number of those reached.
pub record Growing (G : Graph) (r : Rooting) : Type 0 where
  pub long : length r.rank ≡ 511
  pub bounded : (v : ℕ) → v < 511 → get_or r.rank v 0 ≤ positives r.rank
  pub roots : (v : ℕ) → v < 511 → label G v ≡ v → 0 < get_or r.rank v 0
  pub leads : (v : ℕ) → v < 511 → 0 < get_or r.rank v 0 → Leads G r v

-- the vertex v reached by an edge from a neighbour
abbrev pub grown : Rooting → ℕ → ℕ → ℕ → Rooting
grown r v from edge =
    record {
      toward = set r.toward v from;
      by = set r.by v edge;
      rank = set r.rank v (get_or r.rank from 0 + 1);
    }

-- no edge leads from a vertex that is reached to one that is not
abbrev pub Closed : Graph → List ℕ → Type 0
Closed G rank = (h : Hop) → HopOf h G → 0 < get_or rank h.from 0 → 0 < get_or rank h.to 0

-- How the code lays a graph out: its edges in the order of adding, in the first places of an array.
use Rattle.std.specs.Prelude.{List, [], ◌∷◌, map, ℕ, zero, suc, get_or}
use Rattle.tables.specs.declared.Side.TheVariants.{A}
use Rattle.tables.specs.Words.{below}
use Rattle.closure.specs.Graph.{Graph, label}
use Rattle.closure.specs.declared.Edge.{Edge}
use Rattle.closure.specs.declared.EdgeKind.TheVariants.{Basic as basic}

-- the edge that stands in the places not in use
abbrev pub no_edge : Edge
no_edge = record { left = 0; right = 0; colour = A; kind = basic }

-- the first n of a list, the last of them first; d stands for what is not there
unfoldable pub last_first {ℓ} : {A : Type ℓ} → ℕ → List A → A → List A
last_first zero l d = []
last_first (suc i) l d = get_or l i d ∷ last_first i l d

-- the first n edges of an array, the newest first: edge number i stands over the first i
abbrev pub newest_first : ℕ → List Edge → Graph
newest_first n es = last_first n es no_edge

-- the edges of the graph that the code keeps
unfoldable pub edges_of : Rattle.graphs.specs.declared.graph.Graph.Graph → Graph
unfolding last_first
edges_of g = newest_first g.count g.edges

-- an array with the label of each term
unfoldable pub labels_of : Graph → List ℕ
labels_of G = map (label G) (below 511)

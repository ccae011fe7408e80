-- 01, "Closure steps": the graph, joined terms, and the path between two of them.
use Rattle.std.specs.Prelude.{Bool, cond, ◌&&◌, ℕ, eqb}
use mathlib.Core.List.{List, [], ◌∷◌, ◌++◌, map, zip_with}
use Rattle.tables.specs.Terms.{Term, term_at}
use Rattle.tables.specs.declared.Side.{Side}
-- an edge comes from a basic step or from a derived one
pub use Rattle.closure.specs.declared.EdgeKind.{EdgeKind}
pub use Rattle.closure.specs.declared.EdgeKind.TheVariants.{Basic as basic, Derived as derived}
-- "A graph edge is one record holding ends, colour and kind."
pub use Rattle.closure.specs.declared.Edge.{Edge}

-- "The graph starts with the terms in use and no edge." It is kept as its edges, the newest first. Each edge joins two terms that the older
-- ones do not join, so a path never changes once it is there.
abbrev pub Graph : Type 0
Graph = List Edge

-- One number for each set of joined terms: without edges a term's own; an edge gives those at its right end the number of its left end.
unfoldable pub label : Graph → ℕ → ℕ
label [] v = v
label (e ∷ G) v =
    let l = label G v in
    cond (eqb l (label G e.right)) (label G e.left) l

-- "Two terms are joined when a path connects them": the test. What it tests is `Walk` below.
unfoldable pub joined : Graph → ℕ → ℕ → Bool
joined G u v = eqb (label G u) (label G v)

-- one edge as a path walks it, with the edges that are older than it
pub record Hop : Type 0 where
  pub from : ℕ
  pub to : ℕ
  pub colour : Side
  pub kind : EdgeKind
  pub older : Graph

abbrev pub Path : Type 0
Path = List Hop

-- the edge e over the older edges G, walked from its left end, and from its right end
abbrev pub forth : Edge → Graph → Hop
forth e G = record { from = e.left; to = e.right; colour = e.colour; kind = e.kind; older = G }

abbrev pub back : Edge → Graph → Hop
back e G = record { from = e.right; to = e.left; colour = e.colour; kind = e.kind; older = G }

-- The path between two joined terms: that of the older edges where these join them, else by way of the newest edge.
unfoldable pub path : Graph → ℕ → ℕ → Path
path [] u v = []
path (e ∷ G) u v =
    let forward = path G u e.left ++ (forth e G ∷ path G e.right v) in
    let backward = path G u e.right ++ (back e G ∷ path G e.left v) in
    let aside = path G u v in
    cond (joined G u v) aside (cond (joined G u e.left) forward backward)

-- the terms that a path from u stands on, both ends included
abbrev pub vertices : ℕ → Path → List ℕ
vertices u π = u ∷ map (λ h. h.to) π

-- "their arguments are joined pair by pair"
unfoldable pub joined_pairwise : Graph → List ℕ → List ℕ → Bool
joined_pairwise G [] [] = Bool.true
joined_pairwise G [] (y ∷ ys) = Bool.false
joined_pairwise G (x ∷ xs) [] = Bool.false
joined_pairwise G (x ∷ xs) (y ∷ ys) = joined G x y && joined_pairwise G xs ys

-- "The paths between paired arguments are the edge's parent paths": those of terms s and t in a graph
unfoldable pub paths_between : Graph → List ℕ → List ℕ → List Path
paths_between G = zip_with (path G)

-- the parent paths of an edge as it is walked: a basic edge has none
unfoldable pub parents_of : EdgeKind → List Path → List Path
parents_of basic paths = []
parents_of derived paths = paths

unfoldable pub parent_paths : List Term → Hop → List Path
parent_paths table h =
    parents_of h.kind (paths_between h.older (term_at table h.from).arguments (term_at table h.to).arguments)

-- LATE, computed. Each theorem is a sentence of 01 on its graph, and fails where a definition says something else. They are also the laws by which
-- the clause layer's examples compute, which opens nothing of the graph.
use Rattle.std.proofs.Common.{Some}
use mathlib.Core.Bool.{true, false}
use mathlib.Core.List.{List, [], ◌∷◌}
use mathlib.Core.Path.{◌≡◌, refl}
use Prim.Native.Nat.{ℕ}
use Rattle.tables.specs.Terms.{Term}
use Rattle.tables.specs.declared.Literal.{Literal}
use Rattle.tables.specs.declared.Kind.TheVariants.{Equal, Different}
use Rattle.tables.specs.declared.Side.{Side}
use Rattle.tables.specs.declared.Side.TheVariants.{A, B}
use Rattle.closure.specs.Graph.{EdgeKind, Edge, basic, derived, Graph, joined, Path, forth, back, path, parent_paths}
use Rattle.closure.specs.Steps.{congruent, tied}
use Rattle.closure.specs.OwnRun.{own_run}
use Rattle.closure.proofs.Computing.{computing}

-- a term, an equality, a disequality and an edge by their parts
abbrev pub over : ℕ → List ℕ → Term
over symbol arguments = record { symbol = symbol; arguments = arguments }

abbrev pub equality : Side → ℕ → ℕ → Literal
equality X s t = record { side = X; kind = Equal; left = s; right = t }

abbrev pub disequality : Side → ℕ → ℕ → Literal
disequality X s t = record { side = X; kind = Different; left = s; right = t }

abbrev pub edge : EdgeKind → Side → ℕ → ℕ → Edge
edge kind X s t = record { left = s; right = t; colour = X; kind = kind }

-- "terms k, m, p, q, f(k), f(m)"
abbrev pub late_terms : List Term
late_terms = over 10 [] ∷ over 11 [] ∷ over 12 [] ∷ over 13 [] ∷ over 20 (0 ∷ []) ∷ over 20 (1 ∷ []) ∷ []

-- "A p=f(k), A q=f(m), B k=m"
abbrev pub late_equalities : List Literal
late_equalities = equality A 2 4 ∷ equality A 3 5 ∷ equality B 0 1 ∷ []

-- the edges of these, the newest first, and with the derived one
abbrev pub of_two : Graph
of_two = edge basic A 3 5 ∷ edge basic A 2 4 ∷ []

abbrev pub of_three : Graph
of_three = edge basic B 0 1 ∷ of_two

abbrev pub late_graph : Graph
late_graph = edge derived A 4 5 ∷ of_three

-- an edge joins its ends
pub edge_joins : joined (edge basic A 0 1 ∷ []) 0 1 ≡ true
unfolding computing
edge_joins = refl

-- the path from p to q: p=f(k), f(k)=f(m), f(m)=q
abbrev pub late_onward : Path
late_onward = forth (edge basic A 2 4) [] ∷ forth (edge derived A 4 5) of_three ∷ back (edge basic A 3 5) (edge basic A 2 4 ∷ []) ∷ []

pub late_path : path late_graph 2 3 ≡ late_onward
unfolding computing
late_path = refl

-- from p to f(k)
abbrev pub first_of_a : Path
first_of_a = forth (edge basic A 2 4) [] ∷ []

pub path_of_a : path late_graph 2 4 ≡ first_of_a
unfolding computing
path_of_a = refl

-- from k to m, the same before the derived edge
abbrev pub only_of_b : Path
only_of_b = forth (edge basic B 0 1) of_two ∷ []

pub path_of_b : path late_graph 0 1 ≡ only_of_b
unfolding computing
path_of_b = refl

pub path_of_b_before : path of_three 0 1 ≡ only_of_b
unfolding computing
path_of_b_before = refl

-- "The paths between paired arguments are the edge's parent paths": from k to m
pub late_parents : parent_paths late_terms (forth (edge derived A 4 5) of_three) ≡ only_of_b ∷ []
unfolding computing
late_parents = refl

-- a basic edge has none
pub basic_parents : (table : List Term) (s t : ℕ) (X : Side) (G : Graph) → parent_paths table (record { from = s; to = t; colour = X; kind = basic; older = G }) ≡ []
unfolding computing
basic_parents table s t X G = refl

-- "their arguments are joined pair by pair": f(k) and f(m) are not congruent before k=m
pub arguments_not_joined : congruent late_terms of_two 4 5 ≡ false
unfolding computing
arguments_not_joined = refl

-- "each of s and t not yet joined to it gets a derived edge": p and f(k) are joined
pub joined_gets_no_edge : tied (record { added = []; graph = of_two }) 2 4 A ≡ record { added = []; graph = of_two }
unfolding computing
joined_gets_no_edge = refl

-- "all basic steps ..; then, repeatedly, the derived step .. until none is left": three basic steps, and a derived one
pub own_run_goes_on : own_run late_terms late_equalities ≡ Some (record { added = []; graph = late_graph })
unfolding computing
own_run_goes_on = refl

-- 01, "Reading the clauses": the premises and the path clauses of a path.
use mathlib.Core.List.{List, [], ◌∷◌, flat_map}
use Rattle.std.specs.Prelude.{ℕ, zero, suc}
use Rattle.tables.specs.Words.{Pair}
use Rattle.tables.specs.Terms.{Term}
use Rattle.tables.specs.declared.Side.{Side}
use Rattle.tables.specs.declared.Side.TheVariants.{A, B}
use Rattle.closure.specs.Graph.{Hop, Path, path, parent_paths}
use Rattle.clauses.specs.Clauses.{between, Clause, equals}
use Rattle.clauses.specs.Factors.{Factor, factors}

-- [factor]
abbrev pub ends_of : Factor → Pair
ends_of f = between f.from f.to

-- A parent path has only edges that are older than its edge. So parent paths lie no deeper below one another than the graph has edges, and that
-- many turns, the first number of each definition here, are enough.

-- "a B-factor is its own premise; an A-factor's premises are the premises of the parent paths of its edges"; `below` gives the latter of one edge
unfoldable pub factor_premises : (Hop → List Pair) → Factor → Side → List Pair
factor_premises below f B = ends_of f ∷ []
factor_premises below f A = flat_map below f.hops

-- "Premises of a path: those of its factors"
unfoldable pub premises : ℕ → List Term → Path → List Pair
premises zero table π = []
premises (suc d) table π =
    flat_map (λ f. factor_premises (λ h. flat_map (premises d table) (parent_paths table h)) f f.colour) (factors π)

-- "a B-factor has the path clauses of its edges' parent paths; an A-factor has the clause "premises imply [factor]" and the path clauses of each
-- premise"; a premise's path is the path between its ends
unfoldable pub factor_clauses : (Path → List Pair) → (Path → List Clause) → List Term → Factor → Side → List Clause
factor_clauses premisesOf clauses_of table f B = flat_map (λ h. flat_map clauses_of (parent_paths table h)) f.hops
factor_clauses premisesOf clauses_of table f A =
    let own = factor_premises (λ h. flat_map premisesOf (parent_paths table h)) f A in
    record { premises = own; conclusion = equals (ends_of f) } ∷
    flat_map
    (λ h. flat_map (λ p. clauses_of (path h.older p.left p.right)) (flat_map premisesOf (parent_paths table h)))
    f.hops

-- "Path clauses: those of its factors"
unfoldable pub path_clauses : ℕ → List Term → Path → List Clause
path_clauses zero table π = []
path_clauses (suc d) table π =
    flat_map (λ f. factor_clauses (premises d table) (path_clauses d table) table f f.colour) (factors π)

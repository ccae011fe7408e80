-- 01, "Reading the clauses": the critical disequality, and the summary read off the path between its sides.
use Rattle.std.specs.Prelude.{Bool, cond, not, ◌&&◌, ℕ, length, get_or, Option}
use mathlib.Core.List.{List, [], ◌∷◌, ◌++◌, flat_map}
use Rattle.tables.specs.Words.{Pair, any, first_below}
use Rattle.tables.specs.Terms.{Term}
use Rattle.tables.specs.LiteralTable.{is_equal}
use Rattle.tables.specs.declared.Literal.{Literal}
use Rattle.tables.specs.declared.Kind.TheVariants.{Equal}
use Rattle.tables.specs.declared.Side.{Side}
use Rattle.tables.specs.declared.Side.TheVariants.{A, B}
use Rattle.tables.specs.Colours.{colourable}
use Rattle.closure.specs.Graph.{Graph, Path, joined, path}
use Rattle.clauses.specs.Clauses.{between, Clause, Conclusion, differs, falsum}
use Rattle.clauses.specs.Premises.{premises, path_clauses}

-- the literal of a number
abbrev pub literal_at : List Literal → ℕ → Literal
literal_at ls i = get_or ls i (record { side = A; kind = Equal; left = 0; right = 0 })

-- "The critical disequality is the lowest record of kind 2 whose sides are joined when no step is left. None: consistent."
unfoldable pub contradicted : List Literal → Graph → ℕ → Bool
contradicted ls G i = not (is_equal (literal_at ls i).kind) && joined G (literal_at ls i).left (literal_at ls i).right

unfoldable pub critical : List Literal → Graph → Option ℕ
critical ls G = first_below (contradicted ls G) (length ls)

-- "let the middle stretch run from the first to the last B-colourable vertex on the path; outer stretches lie on both sides, and with no such vertex
-- the whole path is outer"
pub record Stretches : Type 0 where
  pub before : Path
  pub middle : Path
  pub after : Path

-- from the first B-colourable vertex on: the middle stretch goes on while such a vertex is still to come
unfoldable pub from_first : (ℕ → Bool) → Path → Stretches
from_first in_b [] = record { before = []; middle = []; after = [] }
from_first in_b (h ∷ π) =
    let rest = from_first in_b π in
    cond (any (λ g. in_b g.to) (h ∷ π))
    (record { before = []; middle = h ∷ rest.middle; after = rest.after })
    (record { before = []; middle = []; after = h ∷ π })

-- the stretches of a path from u
unfoldable pub stretches : (ℕ → Bool) → ℕ → Path → Stretches
stretches in_b u [] = record { before = []; middle = []; after = [] }
stretches in_b u (h ∷ π) =
    let here = from_first in_b (h ∷ π) in
    let rest = stretches in_b h.to π in
    cond (in_b u) here (record { before = h ∷ rest.before; middle = rest.middle; after = rest.after })

-- where a path ends that goes on from v
unfoldable pub end_of : ℕ → Path → ℕ
end_of v [] = v
end_of v (h ∷ π) = end_of h.to π

-- "not [middle]"; "An empty middle stretch gives kind 4"
unfoldable pub not_middle : Path → Conclusion
not_middle [] = falsum
not_middle (h ∷ π) = differs (between h.from (end_of h.to π))

module _ (ts : List Term) (ls : List Literal) (table : List Term) (G : Graph) where
  -- "Premises of a path", "Path clauses", in this graph
  abbrev pub premises_in : Path → List Pair
  premises_in π = premises (length G) table π

  abbrev pub clauses_in : Path → List Clause
  clauses_in π = path_clauses (length G) table π

  -- "Disequality in A": "path clauses of the middle stretch and of the outer premises, and a last clause "outer premises imply not [middle]""
  unfoldable pub outer_premises : Stretches → List Pair
  outer_premises z = premises_in z.before ++ premises_in z.after

  unfoldable pub read_a : Stretches → List Clause
  read_a z =
      clauses_in z.middle ++
      flat_map (λ p. clauses_in (path G p.left p.right)) (outer_premises z) ++
      (record { premises = outer_premises z; conclusion = not_middle z.middle } ∷ [])

  -- the clauses of a disequality between s and t, by its side. "Disequality in B: the path clauses of the path between its sides."
  unfoldable pub read_between : Side → ℕ → ℕ → List Clause
  read_between B s t = clauses_in (path G s t)
  read_between A s t = read_a (stretches (colourable ts ls B table) s (path G s t))

  unfoldable pub summary : Literal → List Clause
  summary l = read_between l.side l.left l.right

-- The reading of clauses applied to LATE, and computed. Each theorem is a sentence of 01, and fails where a definition says something else.
use mathlib.Core.List.{List, [], ◌∷◌, ◌++◌}
use mathlib.Core.Path.{◌≡◌, refl}
use lib.ListN.{length}
use Rattle.tables.specs.Words.{pair}
use Rattle.tables.specs.declared.Literal.{Literal}
use Rattle.tables.specs.declared.Side.TheVariants.{A, B}
use Rattle.closure.specs.Graph.{Path, path}
use Rattle.closure.proofs.Applied.{equality, disequality, late_terms, late_equalities, late_graph, late_onward, first_of_a, only_of_b, late_path, path_of_a, path_of_b, path_of_b_before, late_parents, basic_parents}
use Rattle.clauses.specs.Clauses.{Clause, equals, differs, falsum}
use Rattle.clauses.specs.Factors.{factors}
use Rattle.clauses.specs.Premises.{premises}
use Rattle.clauses.specs.Reading.{summary}
use Rattle.clauses.specs.Records.{standing}
use Rattle.clauses.proofs.Computing.{reading}

-- what is read of a disequality: the path between its sides, and the clauses that stand
pub record Reading : Type 0 where
  pub along : Path
  pub clauses : List Clause

-- that of a disequality beside LATE's equalities and some more
unfoldable pub read : List Literal → Literal → Reading
unfolding reading
read more l = record { along = path late_graph l.left l.right; clauses = standing (length late_terms) (summary late_terms (more ++ late_equalities ++ (l ∷ [])) late_terms late_graph l) }

-- the laws of LATE's graph
ruleset of-late = (late_path, path_of_a, path_of_b, path_of_b_before, late_parents, basic_parents)

-- "A path's factors are its longest stretches of one colour": three edges of A are one
pub one_factor_of_three_edges : factors late_onward ≡ record { colour = A; from = 2; to = 3; hops = late_onward } ∷ []
unfolding reading
one_factor_of_three_edges = refl

-- "an A-factor's premises are the premises of the parent paths of its edges": k=m, for the path from p to q
pub premises_of_parent_paths : premises (length late_graph) late_terms (path late_graph 2 3) ≡ pair 0 1 ∷ []
unfolding read
premises_of_parent_paths = simp of-late

-- "Clauses stand once each"
pub stands_once : standing 2 (record { premises = []; conclusion = equals (pair 0 1) } ∷ record { premises = []; conclusion = equals (pair 0 1) } ∷ []) ≡ record { premises = []; conclusion = equals (pair 0 1) } ∷ []
unfolding read
stands_once = refl

-- B k different m: B by itself has no model, and nothing is said of A, which does not imply false
pub b_alone_needs_nothing : read [] (disequality B 0 1) ≡ record { along = only_of_b; clauses = [] }
unfolding read
b_alone_needs_nothing = simp of-late

-- B p different f(k): B by itself has a model, and what A says is said
pub equality_of_a_is_said : read [] (disequality B 2 4) ≡ record { along = first_of_a; clauses = record { premises = []; conclusion = equals (pair 2 4) } ∷ [] }
unfolding read
equality_of_a_is_said = simp of-late

-- "Disequality in A": of A k different m the path is all B's, and "not [middle]" is said
pub difference_of_a_is_said : read [] (disequality A 0 1) ≡ record { along = only_of_b; clauses = record { premises = []; conclusion = differs (pair 0 1) } ∷ [] }
unfolding read
difference_of_a_is_said = simp of-late

-- A p different q: no vertex of the path is B-colourable, "the whole path is outer", and p and q stay out of the summary
pub a_only_ends_stay_out : read [] (disequality A 2 3) ≡ record { along = late_onward; clauses = record { premises = pair 0 1 ∷ []; conclusion = falsum } ∷ [] }
unfolding read
a_only_ends_stay_out = simp of-late

-- "outer stretches lie on both sides": with B p=p the middle stretch is p alone, and the premise is that of the stretch after it
pub stretch_after_has_premises : read (equality B 2 2 ∷ []) (disequality A 2 3) ≡ record { along = late_onward; clauses = record { premises = pair 0 1 ∷ []; conclusion = falsum } ∷ [] }
unfolding read
stretch_after_has_premises = simp of-late

-- 01, "The library's own run".
use Rattle.std.specs.Prelude.{Bool, cond, not, ◌&&◌, List, [], ◌∷◌, ℕ, zero, suc, length, Option, Some, None, option_map}
use Rattle.tables.specs.Words.{Pair, first_of, pairs_below}
use Rattle.tables.specs.Terms.{Term, term_at}
use Rattle.tables.specs.LiteralTable.{is_equal}
use Rattle.tables.specs.declared.Literal.{Literal}
use Rattle.tables.specs.declared.Side.TheVariants.{A, B}
use Rattle.tables.specs.Colours.{is_in_use, colourable, shared, edge_colourable}
use Rattle.closure.specs.Graph.{basic, derived, Graph, joined, path, vertices}
use Rattle.closure.specs.Steps.{State, begin, table_of, congruent, with_edge, with_middle}

-- "all basic steps by record number, skipping joined sides"
unfoldable pub basic_steps : List Literal → State → State
basic_steps [] st = st
basic_steps (l ∷ ls) st =
    basic_steps ls
    (cond (is_equal l.kind && not (joined st.graph l.left l.right))
    (with_edge st l.left l.right l.side basic)
    st)

-- a derived step can be taken between s and t: they are given terms in use, unjoined, and congruent
unfoldable pub derivable : List Term → List Literal → State → Pair → Bool
derivable ts ls st p =
    congruent (table_of ts st) st.graph p.left p.right &&
    (is_in_use ts ls p.left && is_in_use ts ls p.right) &&
    not (joined st.graph p.left p.right)

-- "the first pair (s below t, smallest s, then smallest t) among the given terms in use"
unfoldable pub first_pair : List Term → List Literal → State → Option Pair
first_pair ts ls st = first_of (derivable ts ls st) (pairs_below (length ts))

-- "The chosen shared term is the first met on the parent path from the argument of the end that is A-colourable only": on each of the parent paths,
-- or nothing where one of them has no shared term
unfoldable pub and_then : Option ℕ → Option (List ℕ) → Option (List ℕ)
and_then None ms = None
and_then (Some m) None = None
and_then (Some m) (Some ms) = Some (m ∷ ms)

unfoldable pub first_shared : List Term → List Literal → List Term → Graph → List ℕ → List ℕ → Option (List ℕ)
first_shared ts ls table G [] [] = Some []
first_shared ts ls table G [] (b ∷ bs) = Some []
first_shared ts ls table G (a ∷ as') [] = Some []
first_shared ts ls table G (a ∷ as') (b ∷ bs) =
    and_then (first_of (shared ts ls table) (vertices a (path G a b))) (first_shared ts ls table G as' bs)

-- the middle step between an end s that is A-colourable only and t, or nothing: row 8, "a middle term is needed and a parent path has no shared term"
unfoldable pub middle_from : List Term → List Literal → State → ℕ → ℕ → Option State
middle_from ts ls st s t =
    let table = table_of ts st in
    option_map (with_middle ts ls st s t)
    (first_shared ts ls table st.graph (term_at table s).arguments (term_at table t).arguments)

-- the derived step between s and t: "A derived edge is B where both ends are B-colourable, else A"; where it is neither, a middle term is needed
unfoldable pub derived_on : List Term → List Literal → State → Pair → Option State
derived_on ts ls st p =
    let s = p.left in
    let t = p.right in
    let table = table_of ts st in
    let asB = Some (with_edge st s t B derived) in
    let asA = Some (with_edge st s t A derived) in
    let fromS = middle_from ts ls st s t in
    let fromT = middle_from ts ls st t s in
    cond (edge_colourable ts ls B table s t) asB
    (cond (edge_colourable ts ls A table s t) asA
    (cond (colourable ts ls A table s) fromS fromT))

-- "repeatedly, the derived step on the first pair .. until none is left". A run has fewer steps than there are terms, so their count is enough
-- turns. Nothing is left of the run where a step cannot be taken.
unfoldable pub turns_at : (State → Option Pair) → (State → Pair → Option State) → ℕ → State → Option State
turns_at find step zero st = Some st
turns_at find step (suc k) st =
    elim (find st) [ None ↦ Some st | Some p ↦ elim (step st p) [ None ↦ None | Some st' ↦ turns_at find step k st' ] ]

-- the run's last state, or nothing where row 8 refuses
unfoldable pub own_run : List Term → List Literal → Option State
own_run ts ls = turns_at (first_pair ts ls) (derived_on ts ls) (length ts) (basic_steps ls begin)

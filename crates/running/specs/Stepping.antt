-- What one derived step of the code rests on, and what it comes to.
use Rattle.std.specs.Prelude.{false, cond, IsTrue, not, ◌&&◌, ◌≡◌, ℕ, ◌%◌, ◌≤◌, ◌<◌, T, eqb, leb, length, get_or, Option, Some, None, Result, MatchResult}
use mathlib.Core.List.{List, [], ◌∷◌, ◌++◌, Memᴰ}
use Rattle.tables.specs.Terms.{Term, term_at}
use Rattle.tables.specs.Parts.{LowerArguments}
use Rattle.tables.specs.declared.Literal.{Literal}
use Rattle.tables.specs.declared.Side.{Side}
use Rattle.tables.specs.declared.Side.TheVariants.{A, B}
use Rattle.tables.specs.Colours.{colourable, shared}
use Rattle.tables.specs.Read.{colour_number}
use Rattle.closure.specs.Graph.{Graph, joined, joined_pairwise}
use Rattle.closure.specs.Steps.{State, table_of, vertex, congruent, vertex_equal, Run}
use Rattle.closure.specs.OwnRun.{own_run}
use Rattle.closure.specs.Forests.{Forest, EndsBelow}
use Rattle.graphs.specs.Rooting.{RootedBy}
use Rattle.graphs.specs.declared.rooting.Rooting.{Rooting}
use Rattle.running.specs.Shown.{padded, column, Shows}
use Rattle.running.specs.Keys.{OneArity}
use Rattle.running.specs.declared.state.State.{State as Arrays}
use Rattle.running.specs.declared.state.Stuck.{Stuck}

-- ---- the shared terms of the parent paths

-- what the choice rests on: the colours of a table, a rooted graph without a cycle over it, and two rows of terms that the graph joins pair by pair
pub record Choosing (a : Arrays) (forest : Rooting) (s t : ℕ) : Type 0 where
  pub ts : List Term
  pub ls : List Literal
  pub table : List Term
  pub graph : Graph
  pub left : List ℕ
  pub right : List ℕ
  pub within : length table ≤ 511
  pub coloured : a.colours ≡ column 0 table (colour_number ts ls table)
  pub acyclic : Forest graph
  pub ends : EndsBelow (length table) graph
  pub rooted : RootedBy graph forest
  pub small : get_or a.arities s 0 ≤ 4
  pub left_is : get_or a.rows s [] ≡ padded left
  pub left_length : length left ≡ get_or a.arities s 0
  pub left_within : (v : ℕ) → Memᴰ v left → v < length table
  pub right_is : get_or a.rows t [] ≡ padded right
  pub right_length : length right ≡ get_or a.arities s 0
  pub right_within : (v : ℕ) → Memᴰ v right → v < length table
  pub join : T (joined_pairwise graph left right)

-- ---- the middle term in its place

-- the arrays show a state of which the row and its symbol are a term; where no vertex equals it, it is shared and there is room for it
pub record Placing (a : Arrays) (s : ℕ) (row : List ℕ) : Type 0 where
  pub ts : List Term
  pub ls : List Literal
  pub reached : State
  pub middle : Term
  pub shows : Shows ts ls reached a
  pub lower : LowerArguments (table_of ts reached)
  pub small : (v : ℕ) → v < length (table_of ts reached) → length (term_at (table_of ts reached) v).arguments ≤ 4
  pub symbol_is : middle.symbol ≡ get_or a.symbols s 0
  pub arity_is : length middle.arguments ≡ get_or a.arities s 0
  pub arity_small : get_or a.arities s 0 ≤ 4
  pub row_is : row ≡ padded middle.arguments
  pub room : vertex_equal ts ls reached middle ≡ None → length (table_of ts reached) < 511
  pub new_shared : vertex_equal ts ls reached middle ≡ None → T (shared ts ls (table_of ts reached ++ (middle ∷ [])) (length (table_of ts reached)))

-- v is a vertex with the row, and with the symbol and the arity of s
abbrev pub Alike : Arrays → ℕ → List ℕ → ℕ → Type 0
Alike a s row v =
    (get_or a.symbols v 0 ≡ get_or a.symbols s 0) × (get_or a.arities v 0 ≡ get_or a.arities s 0) × IsTrue (get_or a.vertices v false) × (get_or a.rows v [] ≡ row)

-- ---- a state of a run

-- what the checks settle of the given terms and the literals
pub record Checked (ts : List Term) (ls : List Literal) : Type 0 where
  pub lower : LowerArguments ts
  pub sides : (l : Literal) → Memᴰ l ls → (l.left < length ts) × (l.right < length ts)
  pub few : length ts ≤ 256
  pub small : (v : ℕ) → v < length ts → length (term_at ts v).arguments ≤ 4
  pub one_arity : OneArity ts

-- the arrays show a state of a run
pub record OnRun (s : Arrays) : Type 0 where
  pub ts : List Term
  pub ls : List Literal
  pub reached : State
  pub checked : Checked ts ls
  pub shows : Shows ts ls reached s
  pub steps : ℕ
  pub run : Run ts ls steps reached

-- unjoined congruent vertices, s A-colourable only and t B-colourable only
pub record Apart (ts : List Term) (ls : List Literal) (st : State) (s t : ℕ) : Type 0 where
  pub left_vertex : T (vertex ts ls st s)
  pub right_vertex : T (vertex ts ls st t)
  pub unjoined : T (not (joined st.graph s t))
  pub alike : T (congruent (table_of ts st) st.graph s t)
  pub left_a : T (colourable ts ls A (table_of ts st) s)
  pub left_not_b : T (not (colourable ts ls B (table_of ts st) s))
  pub right_b : T (colourable ts ls B (table_of ts st) t)
  pub right_not_a : T (not (colourable ts ls A (table_of ts st) t))

-- the colour of an edge by the numbers of its ends' colours: B where both have it, else A; else it takes a middle term
unfoldable pub colouring : ℕ → ℕ → Option Side
colouring x y = cond (leb 2 x && leb 2 y) (Some B) (cond (eqb (x % 2) 1 && eqb (y % 2) 1) (Some A) None)

-- the arrays show the state that there is
abbrev pub Reaches : List Term → List Literal → Option State → Arrays → Type 0
Reaches ts ls o a = (after : State) × (o ≡ Some after) × Shows ts ls after a

-- what comes out of a step is row 8, or the arrays of the state
abbrev pub Outcome : List Term → List Literal → Option State → Result Unit Stuck → Arrays → Type 0
Outcome ts ls o r a = MatchResult r (λ _. Reaches ts ls o a) (λ _. o ≡ None)

-- the library's own run, carried to its end
abbrev pub Ends : List Term → List Literal → Result Arrays Stuck → Type 0
Ends ts ls r = MatchResult r (Reaches ts ls (own_run ts ls)) (λ _. own_run ts ls ≡ None)

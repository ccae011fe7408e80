-- The last graph and its terms as the clause layer is handed them: plain arrays.
use Rattle.std.specs.Prelude.{Bool, true, false, List, ◌⊎◌, ◌↔◌, ◌≡◌, ℕ, ◌+◌, ◌*◌, ◌≤◌, ◌<◌, length, get_or}
use Rattle.tables.specs.Words.{Pair}
use Rattle.tables.specs.Terms.{Term, term_at}
use Rattle.tables.specs.Parts.{LowerArguments}
use Rattle.tables.specs.declared.Literal.{Literal}
use Rattle.closure.specs.declared.Edge.{Edge}
use Rattle.closure.specs.declared.EdgeKind.{EdgeKind}
use Rattle.closure.specs.declared.EdgeKind.TheVariants.{Basic, Derived}
use Rattle.closure.specs.Graph.{Graph}
use Rattle.closure.specs.Forests.{Each}
use Rattle.graphs.specs.Rooting.{RootedBy}
use Rattle.closure.proofs.Walking.Invariant.{SoundGraph}
use Rattle.marking.specs.declared.drawing.Drawing.{Drawing}
use Rattle.marking.specs.declared.marks.Marks.{Marks}
use Rattle.marking.specs.Marks.{is_b, PairWithin, PairMarked, Covered, EdgeReached, Owed}

-- the edge is derived
abbrev pub is_derived : EdgeKind → Bool
is_derived Basic = false
is_derived Derived = true

-- the parts of an edge stand under its number: how many edges are older
pub record PartsAt (lefts rights : List ℕ) (inb derived : List Bool) (G : Graph) (e : Edge) : Type 0 where
  pub left_at : get_or lefts (length G) 0 ≡ e.left
  pub right_at : get_or rights (length G) 0 ≡ e.right
  pub colour_at : get_or inb (length G) false ≡ is_b e.colour
  pub kind_at : get_or derived (length G) false ≡ is_derived e.kind

-- how many parent paths an edge has whose ends have n arguments
abbrev pub parents_for : EdgeKind → ℕ → ℕ
parents_for Basic n = 0
parents_for Derived n = n

-- what the clause layer asks of an edge stands under its number: its colour, how many parent paths it has, and where they begin and end
pub record EdgeAt (table : List Term) (inb : List Bool) (places parents : List ℕ) (G : Graph) (e : Edge) : Type 0 where
  pub colour_at : get_or inb (length G) false ≡ is_b e.colour
  pub places_at : get_or places (length G) 0 ≡ parents_for e.kind (length (term_at table e.left).arguments)
  pub left_at : (k : ℕ) → k < get_or places (length G) 0 → get_or parents (8 * length G + k) 0 ≡ get_or (term_at table e.left).arguments k 0
  pub right_at : (k : ℕ) → k < get_or places (length G) 0 → get_or parents (8 * length G + 4 + k) 0 ≡ get_or (term_at table e.right).arguments k 0

-- The arrays hold a graph as the steps make it, rooted, and the ends of its edges' parent paths.
pub record Drawn (arrays : Drawing) (ts : List Term) (ls : List Literal) (table : List Term) (G : Graph) : Type 0 where
  pub sound : SoundGraph ts ls table G
  pub lower : LowerArguments table
  pub small : length table ≤ 511
  pub counted : length G ≡ arrays.count
  pub few : arrays.count ≤ 510
  pub arity : (v : ℕ) → v < length table → length (term_at table v).arguments ≤ 4
  pub rooted : RootedBy G arrays.forest
  pub edges : Each (EdgeAt table arrays.inb arrays.places arrays.parents) G

-- they hold some graph, and a square of so many marks has a row for each of its vertices
abbrev pub DrawnSome : Drawing → ℕ → Type 0
DrawnSome arrays size =
    (ts : List Term) × (ls : List Literal) × (table : List Term) × (G : Graph) × Drawn arrays ts ls table G × (511 * length table ≤ size)

-- the parent paths of edge number i are read
pub record EdgeSettled (arrays : Drawing) (i : ℕ) (b whole : Bool) (pairs : List Bool) (marks : Marks) (pairs' : List Bool) (marks' : Marks) : Type 0 where
  pub same : length pairs' ≡ length pairs
  pub cover : Covered pairs marks.rows → Covered pairs' marks'.rows
  pub owed : (ts : List Term) (ls : List Literal) (table : List Term) (G : Graph) → Drawn arrays ts ls table G → (p : Pair) → PairWithin 511 p → Owed table G b pairs' marks' i p ↔ (Owed table G b pairs marks i p ⊎ EdgeReached table G b p whole i)

-- the parent paths of all marked edges are read: what was owed is marked, and nothing else
pub record Settled (arrays : Drawing) (b : Bool) (pairs : List Bool) (marks : Marks) (pairs' : List Bool) (marks' : Marks) : Type 0 where
  pub same : length pairs' ≡ length pairs
  pub cover : Covered pairs marks.rows → Covered pairs' marks'.rows
  pub marked : (ts : List Term) (ls : List Literal) (table : List Term) (G : Graph) → Drawn arrays ts ls table G → (p : Pair) → PairWithin 511 p → PairMarked pairs' p ↔ Owed table G b pairs marks arrays.count p

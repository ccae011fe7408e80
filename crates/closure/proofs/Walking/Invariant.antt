-- What holds of every edge of a graph, over the edges older than it: the form of every invariant of a run.
use mathlib.Core.List.{List, Memᴰ}
use mathlib.Core.Path.{◌≡◌}
use Prim.Native.Nat.{◌<◌}
use lib.Dec.{T}
use lib.ListN.{length}
use Rattle.tables.specs.Terms.{Term}
use Rattle.tables.specs.declared.Literal.{Literal}
use Rattle.tables.specs.declared.Kind.TheVariants.{Equal}
use Rattle.tables.specs.Colours.{edge_colourable}
use Rattle.closure.specs.Graph.{Edge, EdgeKind, basic, derived, Graph}
use Rattle.closure.specs.Steps.{congruent, HasSides}
pub use Rattle.closure.specs.Forests.{Each, Unjoined, Forest}

-- what stands behind an edge: an equality record of its colour with its sides, or the same symbol over joined arguments
abbrev pub Behind : List Literal → List Term → Graph → Edge → EdgeKind → Type 0
Behind ls table G e basic = (l : Literal) × Memᴰ l ls × (l.kind ≡ Equal) × (l.side ≡ e.colour) × HasSides l e.left e.right
Behind ls table G e derived = T (congruent table G e.left e.right)

-- an edge as the steps make it
pub record SoundEdge (ts : List Term) (ls : List Literal) (table : List Term) (G : Graph) (e : Edge) : Type 0 where
  pub unjoined : Unjoined G e
  pub behind : Behind ls table G e e.kind
  pub coloured : T (edge_colourable ts ls e.colour table e.left e.right)
  pub left_within : e.left < length table
  pub right_within : e.right < length table

-- a graph as the steps make it
abbrev pub SoundGraph : List Term → List Literal → List Term → Graph → Type 0
SoundGraph ts ls table G = Each (SoundEdge ts ls table) G

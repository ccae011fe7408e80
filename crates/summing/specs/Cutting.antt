-- A path cut at its middle stretch, and what the stretches of a cut path walk in a graph.
use Rattle.std.specs.Prelude.{List, Bool, cond, ◌≡◌, ℕ, ◌≤◌, ◌<◌, ltb, get_or}
use mathlib.Core.List.{Memᴰ}
use Rattle.tables.specs.declared.Side.{Side}
use Rattle.tables.specs.declared.Side.TheVariants.{A, B}
use Rattle.closure.specs.Graph.{Graph, Hop, Path}
use Rattle.closure.specs.Walks.{HopOf}
use Rattle.clauses.specs.Clauses.{between, Conclusion, differs, falsum}
use Rattle.graphs.specs.declared.paths.Trail.{Trail}
use Rattle.marking.specs.Marks.{Trailed, Within, RowsOf}
use Rattle.summing.specs.declared.stretches.Cut.{Cut}

-- the colours of the stop at a place, as a number
abbrev pub colours_at : List ℕ → Trail → ℕ → ℕ
colours_at colours path k = get_or colours (get_or path.stops k 0) 0

-- the first stop in B, or the end of the path where none before it is: a colour of 2 or more says that B is among a vertex's colours
pub record FirstB (colours : List ℕ) (path : Trail) (r : ℕ) : Type 0 where
  pub within : r ≤ path.hops
  pub outside : (k : ℕ) → k < r → colours_at colours path k < 2
  pub found : r < path.hops → 2 ≤ colours_at colours path r

-- the last stop in B from place lo on, or lo itself
pub record LastB (colours : List ℕ) (path : Trail) (lo r : ℕ) : Type 0 where
  pub after : lo ≤ r
  pub within : r ≤ path.hops
  pub outside : (k : ℕ) → r < k → k ≤ path.hops → colours_at colours path k < 2
  pub found : lo < r → 2 ≤ colours_at colours path r

-- where the middle stretch begins and ends: in A at the first and the last stop in B, in B at the path's start and end
abbrev pub Middle : List ℕ → Side → Cut → Type 0
Middle colours A c = FirstB colours c.path.now c.lo × LastB colours c.path.now c.lo c.hi
Middle colours B c = (c.lo ≡ 0) × (c.hi ≡ c.path.now.hops)

-- the path is within its arrays, the middle stretch lies on it, and a square of so many marks has the row of each stop
pub record InPlace (size : ℕ) (c : Cut) : Type 0 where
  pub within : Within c.path.now 0 c.path.now.hops
  pub forward : c.lo ≤ c.hi
  pub inside : c.hi ≤ c.path.now.hops
  pub rows : RowsOf size c.path.now c.path.now.hops

-- "not [middle]", off the path
unfoldable pub not_middle_of : Cut → Conclusion
not_middle_of c =
    cond (ltb c.lo c.hi) (differs (between (get_or c.path.now.stops c.lo 0) (get_or c.path.now.stops c.hi 0))) falsum

-- the stretch of a path from place lo to place hi walks these hops, and they are hops of the graph
pub record Stretch (inb : List Bool) (G : Graph) (path : Trail) (lo hi : ℕ) (π : Path) : Type 0 where
  pub over : (h : Hop) → Memᴰ h π → HopOf h G
  pub trailed : Trailed inb path hi lo π

-- so do the outer stretches, before and after the middle one
pub record Outer (inb : List Bool) (G : Graph) (c : Cut) (before after : Path) : Type 0 where
  pub first : Stretch inb G c.path.now 0 c.lo before
  pub last : Stretch inb G c.path.now c.hi c.path.now.hops after

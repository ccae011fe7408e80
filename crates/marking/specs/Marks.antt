-- What the clause layer marks: the equalities that a path's clauses and premises are made of, and the edges whose parent paths are still to be read.
use Rattle.std.specs.Prelude.{Bool, true, false, not, ◌⊎◌, ◌↔◌, ◌≡◌, ℕ, suc, ◌+◌, ◌*◌, ◌≤◌, ◌<◌, T, length, get_or, replicate}
use mathlib.Core.List.{List, [], ◌∷◌, Memᴰ}
use Rattle.tables.specs.Words.{Pair}
use Rattle.tables.specs.Terms.{Term}
use Rattle.tables.specs.declared.Side.{Side}
use Rattle.tables.specs.declared.Side.TheVariants.{A, B}
use Rattle.closure.specs.Graph.{Graph, Hop, Path, parent_paths}
use Rattle.closure.specs.Walks.{HopOf}
use Rattle.graphs.specs.declared.paths.Trail.{Trail}
use Rattle.clauses.specs.Factors.{Factor, factors}
use Rattle.clauses.specs.Premises.{ends_of}
use Rattle.marking.specs.declared.marks.Marks.{Marks}

-- the colour is B
abbrev pub is_b : Side → Bool
is_b A = false
is_b B = true

-- The equalities that reading a path reaches, by the colour of the factors that are read. Those of B, with inb true: the premises of the path.
-- Those of A, with inb false: the conclusions of its path clauses; or, where its own factors do not count, those of its premises' path clauses.
pub data Reached (table : List Term) (inb : Bool) (p : Pair) : Bool → Path → Type 0 where
  -- the ends of a factor of the colour that is read
  end_of : {π : Path} {f : Factor} → Memᴰ f (factors π) → is_b f.colour ≡ inb → p ≡ ends_of f → Reached table inb p true π
  -- what the parent paths of an edge of the other colour reach
  across : {whole : Bool} {π π' : Path} {h : Hop} → Memᴰ h π → is_b h.colour ≡ not inb → Memᴰ π' (parent_paths table h) → Reached table inb p true π' → Reached table inb p whole π
  -- what the premises of an A-edge's parent paths reach, where the clauses are read
  along : {whole : Bool} {π π' : Path} {h : Hop} → inb ≡ false → Memᴰ h π → is_b h.colour ≡ inb → Memᴰ π' (parent_paths table h) → Reached table inb p false π' → Reached table inb p whole π

-- what the parent paths of edge number k reach: that many edges are older than it
abbrev pub EdgeReached : List Term → Graph → Bool → Pair → Bool → ℕ → Type 0
EdgeReached table G inb p whole k =
    (h : Hop) × HopOf h G × (length h.older ≡ k) × ((π : Path) × Memᴰ π (parent_paths table h) × Reached table inb p whole π)

-- the equality is that of a factor's ends, of this colour
abbrev pub EndOf : Bool → Path → Pair → Type 0
EndOf inb π p = (f : Factor) × Memᴰ f (factors π) × (is_b f.colour ≡ inb) × (p ≡ ends_of f)

-- edge number k is on the path, in this colour
abbrev pub EdgeOf : Bool → Path → ℕ → Type 0
EdgeOf inb π k = (h : Hop) × Memᴰ h π × (is_b h.colour ≡ inb) × (length h.older ≡ k)

-- the lower number left, and both below n
abbrev pub PairWithin : ℕ → Pair → Type 0
PairWithin n p = (p.left < p.right) × (p.right < n)

-- the place of a pair in a square, whose rows are 511 long
abbrev pub place_of : Pair → ℕ
place_of p = 511 * p.left + p.right

-- the pair is marked there
abbrev pub PairMarked : List Bool → Pair → Type 0
PairMarked pairs p = T (get_or pairs (place_of p) false)

-- the edge, or the row of the square, is marked
abbrev pub Marked : List Bool → ℕ → Type 0
Marked marks k = T (get_or marks k false)

-- before the first path is read nothing is marked
abbrev pub no_marks : Marks
no_marks = record { rows = replicate 511 false; inside = replicate 510 false; under = replicate 510 false }

-- what reading a path marks: its factors' ends where they count, the edges of the other colour, and where clauses are read those of A too
pub record Wants (inb whole : Bool) (π : Path) (pairs : List Bool) (marks : Marks) (pairs' : List Bool) (marks' : Marks) : Type 0 where
  pub ends : (p : Pair) → PairWithin 511 p → PairMarked pairs' p ↔ (PairMarked pairs p ⊎ ((whole ≡ true) × EndOf inb π p))
  pub crossed : (k : ℕ) → Marked marks'.inside k ↔ (Marked marks.inside k ⊎ EdgeOf (not inb) π k)
  pub followed : (k : ℕ) → Marked marks'.under k ↔ (Marked marks.under k ⊎ ((inb ≡ false) × EdgeOf inb π k))

-- what is marked, and what the marked edges below n still contribute
abbrev pub Owed : List Term → Graph → Bool → List Bool → Marks → ℕ → Pair → Type 0
Owed table G inb pairs marks n p =
    PairMarked pairs p ⊎ ((k : ℕ) × (k < n) × ((Marked marks.inside k × EdgeReached table G inb p true k) ⊎ (Marked marks.under k × EdgeReached table G inb p false k)))

-- ---- a path as the code walks it: the vertices it stands on, and the numbers of its edges

-- the stretch of a trail from a place on to its end `hi` walks these hops
pub data Trailed (inb : List Bool) (trail : Trail) (hi : ℕ) : ℕ → Path → Type 0 where
  done : {lo : ℕ} → lo ≡ hi → Trailed inb trail hi lo []
  step : {lo : ℕ} {h : Hop} {π : Path} → get_or trail.stops lo 0 ≡ h.from → get_or trail.stops (suc lo) 0 ≡ h.to → get_or trail.edges lo 0 ≡ length h.older → get_or inb (get_or trail.edges lo 0) false ≡ is_b h.colour → Trailed inb trail hi (suc lo) π → Trailed inb trail hi lo (h ∷ π)

-- a trail within the arrays
pub record Within (trail : Trail) (lo hi : ℕ) : Type 0 where
  pub forward : lo ≤ hi
  pub short : hi ≤ 510
  pub stops_low : (k : ℕ) → k ≤ hi → get_or trail.stops k 0 < 511
  pub edges_low : (k : ℕ) → k < hi → get_or trail.edges k 0 < 510

-- the stretch of one colour from place lo on ends at r
pub record StretchEnd (inb : List Bool) (trail : Trail) (lo hi r : ℕ) : Type 0 where
  pub begins : lo < r
  pub inside : r ≤ hi
  pub one_colour : (k : ℕ) → lo ≤ k → k < r → get_or inb (get_or trail.edges k 0) false ≡ get_or inb (get_or trail.edges lo 0) false
  pub longest : (r ≡ hi) ⊎ (get_or inb (get_or trail.edges r 0) false ≡ get_or inb (get_or trail.edges lo 0) false → ⊥)

-- whatever is marked in the square has its row marked
abbrev pub Covered : List Bool → List Bool → Type 0
Covered pairs rows = (p : Pair) → PairWithin 511 p → PairMarked pairs p → Marked rows p.left

-- a square of so many marks has the row of each stop up to place hi
pub record RowsOf (size : ℕ) (trail : Trail) (hi : ℕ) : Type 0 where
  pub row : (k : ℕ) → k ≤ hi → 511 * get_or trail.stops k 0 + 511 ≤ size

-- one pair more is marked, and its row
pub record PairAdded (q : Pair) (pairs rows pairs' rows' : List Bool) : Type 0 where
  pub same : length pairs' ≡ length pairs
  pub added : (p : Pair) → PairWithin 511 p → PairMarked pairs' p ↔ (PairMarked pairs p ⊎ (p ≡ q))
  pub cover : Covered pairs rows → Covered pairs' rows'

-- the ends of a stretch's factors of a colour are marked too
pub record FactorsAdded (inb : List Bool) (trail : Trail) (lo hi : ℕ) (b : Bool) (pairs rows pairs' rows' : List Bool) : Type 0 where
  pub same : length pairs' ≡ length pairs
  pub added : (π : Path) → Trailed inb trail hi lo π → (p : Pair) → PairWithin 511 p → PairMarked pairs' p ↔ (PairMarked pairs p ⊎ EndOf b π p)
  pub cover : Covered pairs rows → Covered pairs' rows'

-- the edges of a stretch of a colour are marked too
abbrev pub EdgesAdded : List Bool → Trail → ℕ → ℕ → Bool → List Bool → List Bool → Type 0
EdgesAdded inb trail lo hi b marks marks' = (π : Path) → Trailed inb trail hi lo π → (k : ℕ) → Marked marks' k ↔ (Marked marks k ⊎ EdgeOf b π k)

-- marks for each vertex and each edge, as the code's arrays have them
pub record InOrder (marks : Marks) : Type 0 where
  pub rows_sized : length marks.rows ≡ 511
  pub inside_sized : length marks.inside ≡ 510
  pub under_sized : length marks.under ≡ 510

-- what a stretch asks for is marked too
pub record Wanted (inb : List Bool) (trail : Trail) (lo hi : ℕ) (b whole : Bool) (pairs : List Bool) (marks : Marks) (pairs' : List Bool) (marks' : Marks) : Type 0 where
  pub same : length pairs' ≡ length pairs
  pub in_order : InOrder marks'
  pub cover : Covered pairs marks.rows → Covered pairs' marks'.rows
  pub wants : (π : Path) → Trailed inb trail hi lo π → Wants b whole π pairs marks pairs' marks'

-- what the stretches before and after the middle one ask for is marked too, one after the other
pub record OuterWanted (inb : List Bool) (trail : Trail) (lo hi : ℕ) (b : Bool) (pairs : List Bool) (marks : Marks) (pairs' : List Bool) (marks' : Marks) : Type 0 where
  pub pairs₁ : List Bool
  pub marks₁ : Marks
  pub before : Wanted inb trail 0 lo b b pairs marks pairs₁ marks₁
  pub after : Wanted inb trail hi trail.hops b b pairs₁ marks₁ pairs' marks'

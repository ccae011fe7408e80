-- What the marking of terms works on: the arrays of rows and arities, and the marks.
use Rattle.std.specs.Prelude.{Bool, false, cond, not, ◌&&◌, ◌⊎◌, ◌≡◌, ℕ, ◌+◌, ◌≤◌, ◌<◌, T, eqb, length, get_or, take}
use mathlib.Core.List.{List, [], Memᴰ}
use Rattle.tables.specs.Words.{every}
use Rattle.tables.specs.Bytes.{word_at}
use Rattle.tables.specs.Terms.{Term, term_at, parts}
use Rattle.tables.specs.Parts.{Part}
use Rattle.tables.specs.LiteralTable.{literal_count, literal_record, literal_of}
use Rattle.tables.specs.declared.Side.{Side}

-- the arguments of term t: as many of its row as its arity says
abbrev pub arguments_in : List (List ℕ) → List ℕ → ℕ → List ℕ
arguments_in rows arities t = take (get_or arities t 0) (get_or rows t [])

-- t is marked
abbrev pub Marked : List Bool → ℕ → Type 0
Marked marks t = T (get_or marks t false)

-- rows of four, of which the arity says how many are used; "Every argument is lower than the record's own number"
pub record LowerRows (rows : List (List ℕ)) (arities : List ℕ) : Type 0 where
  pub four : (t : ℕ) → t < 256 → length (get_or rows t []) ≡ 4
  pub arity : (t : ℕ) → t < 256 → get_or arities t 0 ≤ 4
  pub lower : (t : ℕ) → t < 256 → (a : ℕ) → Memᴰ a (arguments_in rows arities t) → a < t

-- whatever is marked has its arguments marked
abbrev pub Closed : List (List ℕ) → List ℕ → List Bool → Type 0
Closed rows arities marks = (u : ℕ) → Marked marks u → (a : ℕ) → Memᴰ a (arguments_in rows arities u) → Marked marks a

-- what marking starts from: a term number, a mark for each term, and nothing marked whose arguments are not
pub record Markable (rows : List (List ℕ)) (arities : List ℕ) (marks : List Bool) (t : ℕ) : Type 0 where
  pub within : t < 256
  pub sized : length marks ≡ 256
  pub low : LowerRows rows arities
  pub closed : Closed rows arities marks

-- the rows and arities are those of the terms
abbrev pub Describes : List (List ℕ) → List ℕ → List Term → Type 0
Describes rows arities ts = (t : ℕ) → arguments_in rows arities t ≡ (term_at ts t).arguments

-- t and all its parts are marked too, and nothing else is
pub record MarkedToo (rows : List (List ℕ)) (arities : List ℕ) (t : ℕ) (before after : List Bool) : Type 0 where
  pub sized : length after ≡ length before
  pub closed : Closed rows arities after
  pub reached : Marked after t
  pub kept : (u : ℕ) → Marked before u → Marked after u
  pub only : (ts : List Term) → Describes rows arities ts → (u : ℕ) → Marked after u → Marked before u ⊎ Part ts u t

-- the sides of the literals are term numbers
pub record LiteralsWithin (ls : List ℕ) : Type 0 where
  pub left : (k : ℕ) → k < literal_count ls → word_at (literal_record ls k) 2 < 256
  pub right : (k : ℕ) → k < literal_count ls → word_at (literal_record ls k) 4 < 256

-- u is a part of a side of a literal of the named side, among the first literals
abbrev pub StandsIn : List Term → List ℕ → Side → ℕ → ℕ → Type 0
StandsIn ts ls side count u =
    (k : ℕ) × (k < count) × ((literal_of (literal_record ls k)).side ≡ side) × (Part ts u (word_at (literal_record ls k) 2) ⊎ Part ts u (word_at (literal_record ls k) 4))

-- the sides of these literals and all their parts are marked, and nothing else is
pub record Inside (rows : List (List ℕ)) (arities ls : List ℕ) (side : Side) (count : ℕ) (marks : List Bool) : Type 0 where
  pub sized : length marks ≡ 256
  pub closed : Closed rows arities marks
  pub reached : (k : ℕ) → k < count → (literal_of (literal_record ls k)).side ≡ side → Marked marks (word_at (literal_record ls k) 2) × Marked marks (word_at (literal_record ls k) 4)
  pub only : (ts : List Term) → Describes rows arities ts → (u : ℕ) → Marked marks u → StandsIn ts ls side count u

-- u is inside and has the symbol of t
abbrev pub same_symbol_inside : List ℕ → List Bool → ℕ → ℕ → Bool
same_symbol_inside symbols inside t u = get_or inside u false && eqb (get_or symbols u 0) (get_or symbols t 0)

-- u is marked and its symbol does not occur
abbrev pub marked_and_missing : List Bool → List Bool → ℕ → Bool
marked_and_missing marks occurring u = get_or marks u false && not (get_or occurring u false)

-- the colours of t as one number, where the marks say for each term whether its symbol occurs in A, and in B
abbrev pub parts_colour : List Bool → List Bool → List Term → ℕ → ℕ
parts_colour a b ts t = cond (every (λ u. get_or a u false) (parts ts t)) 1 0 + cond (every (λ u. get_or b u false) (parts ts t)) 2 0

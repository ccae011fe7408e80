-- Clause records as the code writes them: each where it fits, one behind the other.
use Rattle.std.specs.Prelude.{Bool, false, cond, List, [], ◌∷◌, ◌++◌, map, ◌⊎◌, ◌↔◌, ◌≡◌, ℕ, ◌+◌, ◌*◌, ◌≤◌, leb, ltb, length, get_or, take, drop}
use Rattle.tables.specs.Words.{Pair, pair, below, keep, pairs_below}
use Rattle.clauses.specs.Records.{clause_record}
use Rattle.marking.specs.Marks.{PairWithin, place_of, PairMarked}
use Rattle.summing.specs.declared.writing.Records.{Records}
use Rattle.summing.specs.declared.writing.Kind.{Kind}
use Rattle.summing.specs.declared.writing.Kind.TheVariants.{Premise, Equal, Different, False}

-- "0 kind (1 premise, 2 equal, 3 different, 4 false)"
abbrev pub kind_number : Kind → ℕ
kind_number Premise = 1
kind_number Equal = 2
kind_number Different = 3
kind_number False = 4

-- record number `at` of 8 bytes replaced, where it is in the buffer
unfoldable pub put_record : ℕ → List ℕ → List ℕ → List ℕ
put_record at r out = cond (leb (8 * at + 8) (length out)) (take (8 * at) out ++ r ++ drop (8 * at + 8) out) out

-- records one behind the other, from record number `at` on
unfoldable pub put_records : ℕ → List (List ℕ) → List ℕ → List ℕ
unfolding put_record
put_records at [] out = out
put_records at (r ∷ rs) out = put_records (at + 1) rs (put_record at r out)

-- the pair is marked
abbrev pub marked : List Bool → Pair → Bool
marked found p = get_or found (place_of p) false

-- the pairs of a row with both below n, ascending
abbrev pub row_pairs : ℕ → ℕ → List Pair
row_pairs n u = map (pair u) (keep (ltb u) (below n))

-- A buffer of records: its bytes, and how many records were put into it. One that had no room counts too.
pub record Sheet : Type 0 where
  pub bytes : List ℕ
  pub count : ℕ

abbrev pub sheet : List ℕ → ℕ → Sheet
sheet bytes count = record { bytes = bytes; count = count }

-- what a writer holds
abbrev pub sheet_of : Records → Sheet
sheet_of w = sheet w.out.now w.count

-- a writer keeps the buffer that it was lent
abbrev pub Lent : Records → Records → Type 0
Lent w w' = w'.out.ghost_name ≡ w.out.ghost_name

-- records are put behind those that were there
pub record RecordsPut (rs : List (List ℕ)) (s s' : Sheet) : Type 0 where
  pub count : s'.count ≡ s.count + length rs
  pub bytes : s'.bytes ≡ put_records s.count rs s.bytes

-- premises as records
abbrev pub premise_records : List Pair → List (List ℕ)
premise_records ps = map (clause_record 1) ps

-- the marks of row u below n are taken away, and no other
pub record RowCleared (n u : ℕ) (found found' : List Bool) : Type 0 where
  pub sized : length found' ≡ length found
  pub left_over : (p : Pair) → PairWithin 511 p → PairMarked found' p ↔ (PairMarked found p × ((p.left ≡ u → ⊥) ⊎ (n ≤ p.right)))

-- the marked pairs of a row become records
pub record RowOut (n u : ℕ) (found : List Bool) (s : Sheet) (found' : List Bool) (s' : Sheet) : Type 0 where
  pub few : s'.count ≤ s.count + 511
  pub premises : RecordsPut (premise_records (keep (marked found) (row_pairs n u))) s s'
  pub cleared : RowCleared n u found found'

-- all marked pairs below n become records; their marks are taken away, and no other
pub record AllOut (n : ℕ) (found : List Bool) (s : Sheet) (found' : List Bool) (s' : Sheet) : Type 0 where
  pub few : s'.count ≤ s.count + 261121
  pub premises : RecordsPut (premise_records (keep (marked found) (pairs_below n))) s s'
  pub sized : length found' ≡ length found
  pub left_over : (p : Pair) → PairWithin 511 p → PairMarked found' p ↔ (PairMarked found p × (n ≤ p.right))

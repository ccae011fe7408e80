-- 01, "What comes back", rows 1 to 6: "Checks run in the order of the rows, each over its whole table before the next; in rows 1, 2 and 7 the lower
-- place first."
use Rattle.std.specs.Prelude.{Bool, cond, not, List, ℕ, ◌%◌, length, eqb, ltb, Option, Some, None, Result, Ok, Err}
use Rattle.tables.specs.Words.{first_below}
use Rattle.tables.specs.TermTable.{term_count}
use Rattle.tables.specs.Tests.{breaks_layout, had_other_arity, equals_earlier, breaks_literal}
use Rattle.tables.specs.LiteralTable.{literal_count}
use Rattle.tables.specs.declared.Refusal.{Refusal}
use Rattle.tables.specs.declared.Refusal.TheVariants.{Length, Count, Layout, Arity, Repeated, Literal}

-- what the checks say: the tables are sound, or a row refuses them
abbrev pub Check : Type 0
Check = Result (Unit {0}) Refusal

abbrev pub Sound : Check
Sound = Ok tt

-- of two places the lower first: 0 for the terms, 1 for the literals
unfoldable pub place_of : Bool → Bool → Option ℕ
place_of terms literals = cond terms (Some 0) (cond literals (Some 1) None)

-- row 1: "length not a multiple of 16 (terms) or 8 (literals)"
unfoldable pub length_row : List ℕ → List ℕ → Option ℕ
unfolding place_of
length_row ts ls = place_of (not (eqb (length ts % 16) 0)) (not (eqb (length ls % 8) 0))

-- row 2: "over 256 terms or 1,024 literals"
unfoldable pub count_row : List ℕ → List ℕ → Option ℕ
unfolding place_of
count_row ts ls = place_of (ltb 256 (term_count ts)) (ltb 1024 (literal_count ls))

-- row 3: "a term record breaks its layout": first such record
unfoldable pub layout_row : List ℕ → Option ℕ
layout_row ts = first_below (breaks_layout ts) (term_count ts)

-- row 4: "a symbol had another arity in an earlier record": first such record
unfoldable pub arity_row : List ℕ → Option ℕ
arity_row ts = first_below (had_other_arity ts) (term_count ts)

-- row 5: "a term record equals an earlier one": first such record
unfoldable pub repeated_row : List ℕ → Option ℕ
repeated_row ts = first_below (equals_earlier ts) (term_count ts)

-- row 6: "side or kind not 1 or 2, a term number not in the table, bytes 6-7 not zero": first such record
unfoldable pub literal_row : List ℕ → List ℕ → Option ℕ
literal_row ts ls = first_below (breaks_literal (term_count ts) ls) (literal_count ls)

-- a row that names a place refuses there; else the next row is asked
unfoldable pub refuse : (ℕ → Refusal) → Option ℕ → Check → Check
refuse row (Some place) next = Err (row place)
refuse row None next = next

-- "Checks run in the order of the rows"
unfoldable pub checked : List ℕ → List ℕ → Check
unfolding refuse length_row count_row layout_row arity_row repeated_row literal_row
checked ts ls =
    refuse Length (length_row ts ls)
    (refuse Count (count_row ts ls)
    (refuse Layout (layout_row ts)
    (refuse Arity (arity_row ts)
    (refuse Repeated (repeated_row ts)
    (refuse Literal (literal_row ts ls) Sound)))))

-- the number of a refusal in 01's list
unfoldable pub number_of : Refusal → ℕ
number_of (Length p) = 1
number_of (Count p) = 2
number_of (Layout p) = 3
number_of (Arity p) = 4
number_of (Repeated p) = 5
number_of (Literal p) = 6

-- the place of a refusal
unfoldable pub place_in : Refusal → ℕ
place_in (Length p) = p
place_in (Count p) = p
place_in (Layout p) = p
place_in (Arity p) = p
place_in (Repeated p) = p
place_in (Literal p) = p

-- The checks of one record as tests, which rows 3 to 6 of Checks run over their tables. What each test says is in Rows, and proofs/Faults ties the two.
use Rattle.std.specs.Prelude.{Bool, not, ◌&&◌, ◌||◌, List, [], ◌∷◌, ℕ, eqb, ltb, leb}
use Rattle.tables.specs.Words.{below, any, same}
use Rattle.tables.specs.Bytes.{byte_at, word_at}
use Rattle.tables.specs.TermTable.{term_record, symbol_field, arity_field, argument_field}
use Rattle.tables.specs.LiteralTable.{literal_record}

-- some number below n passes the test
abbrev pub some_below : (ℕ → Bool) → ℕ → Bool
some_below p n = any p (below n)

-- "arity (0 to 4)"
unfoldable pub arity_wrong : List ℕ → Bool
arity_wrong r = ltb 4 (arity_field r)

-- "3 zero", "12-15 zero"
unfoldable pub spare_wrong : List ℕ → Bool
spare_wrong r = any (λ i. not (eqb (byte_at r i) 0)) (3 ∷ 12 ∷ 13 ∷ 14 ∷ 15 ∷ [])

-- "Every argument is lower than the record's own number": field j is used and not lower than k
unfoldable pub not_lower : ℕ → List ℕ → ℕ → Bool
not_lower k r j = ltb j (arity_field r) && leb k (argument_field r j)

-- "Argument fields past the arity are zero": field j is unused and not zero
unfoldable pub unused_not_zero : List ℕ → ℕ → Bool
unused_not_zero r j = leb (arity_field r) j && not (eqb (argument_field r j) 0)

-- row 3: "a term record breaks its layout". With an arity over 4 it does, whatever its argument fields hold.
unfoldable pub breaks_layout : List ℕ → ℕ → Bool
unfolding arity_wrong spare_wrong not_lower unused_not_zero
breaks_layout bs k =
    let r = term_record bs k in
    arity_wrong r || spare_wrong r || some_below (not_lower k r) 4 || some_below (unused_not_zero r) 4

-- row 4: "a symbol had another arity in an earlier record"
unfoldable pub other_arity : List ℕ → ℕ → ℕ → Bool
other_arity bs k j =
    eqb (symbol_field (term_record bs j)) (symbol_field (term_record bs k)) &&
    not (eqb (arity_field (term_record bs j)) (arity_field (term_record bs k)))

unfoldable pub had_other_arity : List ℕ → ℕ → Bool
unfolding other_arity
had_other_arity bs k = some_below (other_arity bs k) k

-- row 5: "a term record equals an earlier one"
unfoldable pub equal_records : List ℕ → ℕ → ℕ → Bool
equal_records bs k j = same (term_record bs j) (term_record bs k)

unfoldable pub equals_earlier : List ℕ → ℕ → Bool
unfolding equal_records
equals_earlier bs k = some_below (equal_records bs k) k

-- "not 1 or 2"
unfoldable pub not_one_or_two : ℕ → Bool
not_one_or_two b = not (eqb b 1 || eqb b 2)

-- row 6: "side or kind not 1 or 2, a term number not in the table, bytes 6-7 not zero", in a table of n terms
unfoldable pub breaks_literal : ℕ → List ℕ → ℕ → Bool
unfolding not_one_or_two
breaks_literal n bs k =
    let r = literal_record bs k in
    not_one_or_two (byte_at r 0) || not_one_or_two (byte_at r 1) || leb n (word_at r 2) || leb n (word_at r 4) ||
    not (eqb (word_at r 6) 0)

-- What rows 3 to 6 look for, in the words of document 01: each test of a record passes exactly when the record has one of its faults.
use mathlib.Core.Bool.{Bool, not, ◌&&◌, ◌||◌}
use mathlib.Core.List.{List, [], ◌∷◌, Memᴰ}
use mathlib.Core.Logic.{◌↔◌, ◌⊎◌, inl, inr, ⊎_elim}
use mathlib.Core.Path.{◌≡◌, refl, subst}
use Prim.Native.Nat.{ℕ, zero, suc, ◌+◌, ◌-◌, ◌*◌, ◌≤◌, ◌<◌}
use native.Mathlib.Omega.{arith}
use lib.Dec.{T, eqb, ltb, leb, eqb→eq, ltb→lt, lt→ltb, leb→le, le→leb}
use Rattle.tables.specs.Words.{every, same}
use Rattle.tables.specs.Tests.{some_below, arity_wrong, spare_wrong, not_lower, unused_not_zero, breaks_layout, other_arity, had_other_arity, equal_records, equals_earlier, not_one_or_two, breaks_literal}
use Rattle.tables.specs.Bytes.{byte_at, word_at}
use Rattle.tables.specs.TermTable.{term_record, symbol_field, arity_field, argument_field}
use Rattle.tables.specs.LiteralTable.{literal_record}
use Rattle.tables.specs.Rows.{LayoutFault, arity_over_four, byte_three, last_bytes, argument_not_lower, unused_field_not_zero, OtherArity, HadOtherArity, EqualsEarlier, LiteralFault, side_not_one_or_two, kind_not_one_or_two, left_not_in_table, right_not_in_table, byte_six, byte_seven}
use Rattle.tables.proofs.Words.{every_all, or_left, or_right, decide, any_some, some_any, same_eq, same_self, some_below_some, some_some_below}
use Rattle.tables.proofs.Tests.{eq_test, lt_test, le_test, not_test, ne_test, and_test, either, or_test, some_test}

-- "a symbol had another arity in an earlier record"
pub had_other_arity_is : (bs : List ℕ) (k : ℕ) → T (had_other_arity bs k) ↔ HadOtherArity bs k
unfolding had_other_arity other_arity
had_other_arity_is bs k =
    some_test (other_arity bs k) k
    (λ j. OtherArity (term_record bs j) (term_record bs k))
    (λ j.
    and_test (eqb (symbol_field (term_record bs j)) (symbol_field (term_record bs k))) (not (eqb (arity_field (term_record bs j)) (arity_field (term_record bs k)))) _ _
    (eq_test (symbol_field (term_record bs j)) (symbol_field (term_record bs k))) (ne_test (arity_field (term_record bs j)) (arity_field (term_record bs k))))

-- "a term record equals an earlier one"
pub equals_earlier_is : (bs : List ℕ) (k : ℕ) → T (equals_earlier bs k) ↔ EqualsEarlier bs k
unfolding equals_earlier equal_records
equals_earlier_is bs k =
    some_test (equal_records bs k) k (λ j. term_record bs j ≡ term_record bs k)
    (λ j. (same_eq (term_record bs j) (term_record bs k), λ e. subst (λ (r : List ℕ). T (same (term_record bs j) r)) e (same_self (term_record bs j))))

-- "3 zero", "12-15 zero": the places of the spare bytes
abbrev spares : List ℕ
spares = 3 ∷ 12 ∷ 13 ∷ 14 ∷ 15 ∷ []

-- 3, or from 12 to 15, as a test
abbrev is_spare : ℕ → Bool
is_spare i = eqb i 3 || (leb 12 i && ltb i 16)

-- a spare place is 3, or from 12 to 15
spare_is : {i : ℕ} → Memᴰ i spares → (i ≡ 3) ⊎ ((12 ≤ i) × (i < 16))
unfolding every
spare_is {i} m =
    (or_test (eqb i 3) (leb 12 i && ltb i 16) _ _ (eq_test i 3) (and_test (leb 12 i) (ltb i 16) _ _ (le_test 12 i) (lt_test i 16))).0
    (every_all is_spare {xs = spares} tt m)

-- 12 to 15 are spare places
last_spare : (i : ℕ) → i < 4 → Memᴰ (12 + i) spares
last_spare zero h = Memᴰ.tail (Memᴰ.head refl)
last_spare (suc zero) h = Memᴰ.tail (Memᴰ.tail (Memᴰ.head refl))
last_spare (suc (suc zero)) h = Memᴰ.tail (Memᴰ.tail (Memᴰ.tail (Memᴰ.head refl)))
last_spare (suc (suc (suc zero))) h = Memᴰ.tail (Memᴰ.tail (Memᴰ.tail (Memᴰ.tail (Memᴰ.head refl))))
last_spare (suc (suc (suc (suc i)))) h = absurd (let z : ◌≡◌ {A = ℕ} 0 1 = omega arith in omega arith)

module _ (k : ℕ) (r : List ℕ) where
  -- the byte at a place is not zero
  abbrev not_zero : ℕ → Bool
  not_zero i = not (eqb (byte_at r i) 0)

  -- a spare byte that is not zero is found
  spare_fault : T (spare_wrong r) → LayoutFault k r
  unfolding spare_wrong
  spare_fault h =
      let w = any_some not_zero spares h in
      let f : byte_at r w.0 ≡ 0 → ⊥ = (ne_test (byte_at r w.0) 0).0 w.2 in
      ⊎_elim (λ e. byte_three (subst (λ (i : ℕ). byte_at r i ≡ 0 → ⊥) e f)) (λ l. last_bytes w.0 l.0 l.1 f) (spare_is w.1)

  -- one at a spare place makes the test pass
  fault_spare : (i : ℕ) → Memᴰ i spares → (byte_at r i ≡ 0 → ⊥) → T (spare_wrong r)
  unfolding spare_wrong
  fault_spare i m f = some_any not_zero m ((ne_test (byte_at r i) 0).1 f)

  -- a used argument that is not lower
  not_lower_is : (j : ℕ) → T (not_lower k r j) ↔ ((j < arity_field r) × (k ≤ argument_field r j))
  unfolding not_lower
  not_lower_is j = and_test (ltb j (arity_field r)) (leb k (argument_field r j)) _ _ (lt_test j (arity_field r)) (le_test k (argument_field r j))

  -- an unused argument that is not zero
  unused_is : (j : ℕ) → T (unused_not_zero r j) ↔ ((arity_field r ≤ j) × (argument_field r j ≡ 0 → ⊥))
  unfolding unused_not_zero
  unused_is j = and_test (leb (arity_field r) j) (not (eqb (argument_field r j) 0)) _ _ (le_test (arity_field r) j) (ne_test (argument_field r j) 0)

  -- the four parts of row 3's test
  abbrev broken : Bool
  broken = arity_wrong r || spare_wrong r || some_below (not_lower k r) 4 || some_below (unused_not_zero r) 4

  -- a record that breaks its layout has one of the faults
  broken_fault : T broken → LayoutFault k r
  unfolding arity_wrong
  broken_fault =
      either (arity_wrong r || spare_wrong r || some_below (not_lower k r) 4) (some_below (unused_not_zero r) 4)
      (either (arity_wrong r || spare_wrong r) (some_below (not_lower k r) 4)
      (either (arity_wrong r) (spare_wrong r) (λ t. arity_over_four (ltb→lt 4 (arity_field r) t)) spare_fault)
      (λ t. let w = some_below_some (not_lower k r) 4 t in let f = (not_lower_is w.0).0 w.2 in argument_not_lower w.0 w.1 f.0 f.1))
      (λ t. let w = some_below_some (unused_not_zero r) 4 t in let f = (unused_is w.0).0 w.2 in unused_field_not_zero w.0 w.1 f.0 f.1)

  -- the first two parts alone
  first_two : T (arity_wrong r) ⊎ T (spare_wrong r) → T broken
  first_two h =
      or_left (arity_wrong r || spare_wrong r || some_below (not_lower k r) 4) (some_below (unused_not_zero r) 4)
      (or_left (arity_wrong r || spare_wrong r) (some_below (not_lower k r) 4)
      (⊎_elim (or_left (arity_wrong r) (spare_wrong r)) (or_right (arity_wrong r) (spare_wrong r)) h))

  -- each fault breaks the layout
  fault_broken : LayoutFault k r → T broken
  unfolding arity_wrong
  fault_broken (arity_over_four l) = first_two (inl (lt→ltb 4 (arity_field r) l))
  fault_broken (byte_three f) = first_two (inr (fault_spare 3 (Memᴰ.head refl) f))
  fault_broken (last_bytes i a b f) =
      let e : 12 + (i - 12) ≡ i = omega arith in
      first_two (inr (fault_spare i (subst (λ (x : ℕ). Memᴰ x spares) e (last_spare (i - 12) (omega arith))) f))
  fault_broken (argument_not_lower j h a b) =
      or_left (arity_wrong r || spare_wrong r || some_below (not_lower k r) 4) (some_below (unused_not_zero r) 4)
      (or_right (arity_wrong r || spare_wrong r) (some_below (not_lower k r) 4) (some_some_below (not_lower k r) 4 j h ((not_lower_is j).1 (a, b))))
  fault_broken (unused_field_not_zero j h a b) =
      or_right (arity_wrong r || spare_wrong r || some_below (not_lower k r) 4) (some_below (unused_not_zero r) 4)
      (some_some_below (unused_not_zero r) 4 j h ((unused_is j).1 (a, b)))

-- "a term record breaks its layout"
pub breaks_layout_is : (bs : List ℕ) (k : ℕ) → T (breaks_layout bs k) ↔ LayoutFault k (term_record bs k)
unfolding breaks_layout
breaks_layout_is bs k = (broken_fault k (term_record bs k), fault_broken k (term_record bs k))

-- "not 1 or 2"
not_one_or_two_is : (b : ℕ) → T (not_one_or_two b) ↔ ((b ≡ 1 → ⊥) × (b ≡ 2 → ⊥))
unfolding not_one_or_two
not_one_or_two_is b = (λ h. (λ e. f.0 h (inl e), λ e. f.0 h (inr e)), λ w. f.1 (⊎_elim w.0 w.1))
  where
    f : T (not (eqb b 1 || eqb b 2)) ↔ ((b ≡ 1) ⊎ (b ≡ 2) → ⊥)
    f = not_test (eqb b 1 || eqb b 2) _ (or_test (eqb b 1) (eqb b 2) _ _ (eq_test b 1) (eq_test b 2))

-- a word of two bytes is not zero exactly when one of them is not
word_not_zero : (a b : ℕ) → T (not (eqb (a + 256 * b) 0)) ↔ ((a ≡ 0 → ⊥) ⊎ (b ≡ 0 → ⊥))
word_not_zero a b = (λ h. to ((ne_test (a + 256 * b) 0).0 h), λ w. (ne_test (a + 256 * b) 0).1 (from w))
  where
    to : (a + 256 * b ≡ 0 → ⊥) → (a ≡ 0 → ⊥) ⊎ (b ≡ 0 → ⊥)
    to h = ⊎_elim (λ t. let z : a ≡ 0 = eqb→eq a 0 t in inr (λ e. h (omega arith))) (λ t. inl ((ne_test a 0).0 t)) (decide (eqb a 0))

    from : (a ≡ 0 → ⊥) ⊎ (b ≡ 0 → ⊥) → a + 256 * b ≡ 0 → ⊥
    from w e = ⊎_elim (λ f. f (omega arith)) (λ f. f (omega arith)) w

module _ (n : ℕ) (r : List ℕ) where
  -- the five parts of row 6's test
  abbrev sides : Bool
  sides = not_one_or_two (byte_at r 0)

  abbrev kinds : Bool
  kinds = not_one_or_two (byte_at r 1)

  abbrev left : Bool
  left = leb n (word_at r 2)

  abbrev right : Bool
  right = leb n (word_at r 4)

  abbrev spare : Bool
  spare = not (eqb (word_at r 6) 0)

  -- a record that breaks row 6 has one of the faults
  wrong_fault : T (sides || kinds || left || right || spare) → LiteralFault n r
  wrong_fault =
      either (sides || kinds || left || right) spare
      (either (sides || kinds || left) right
      (either (sides || kinds) left
      (either sides kinds
      (λ t. let w = (not_one_or_two_is (byte_at r 0)).0 t in side_not_one_or_two w.0 w.1)
      (λ t. let w = (not_one_or_two_is (byte_at r 1)).0 t in kind_not_one_or_two w.0 w.1))
      (λ t. left_not_in_table (leb→le n (word_at r 2) t)))
      (λ t. right_not_in_table (leb→le n (word_at r 4) t)))
      (λ t. ⊎_elim byte_six byte_seven ((word_not_zero (byte_at r 6) (byte_at r 7)).0 t))

  -- each fault breaks row 6
  fault_wrong : LiteralFault n r → T (sides || kinds || left || right || spare)
  fault_wrong (side_not_one_or_two a b) = or_left (sides || kinds || left || right) spare (or_left (sides || kinds || left) right (or_left (sides || kinds) left (or_left sides kinds ((not_one_or_two_is (byte_at r 0)).1 (a, b)))))
  fault_wrong (kind_not_one_or_two a b) = or_left (sides || kinds || left || right) spare (or_left (sides || kinds || left) right (or_left (sides || kinds) left (or_right sides kinds ((not_one_or_two_is (byte_at r 1)).1 (a, b)))))
  fault_wrong (left_not_in_table l) = or_left (sides || kinds || left || right) spare (or_left (sides || kinds || left) right (or_right (sides || kinds) left (le→leb n (word_at r 2) l)))
  fault_wrong (right_not_in_table l) = or_left (sides || kinds || left || right) spare (or_right (sides || kinds || left) right (le→leb n (word_at r 4) l))
  fault_wrong (byte_six f) = or_right (sides || kinds || left || right) spare ((word_not_zero (byte_at r 6) (byte_at r 7)).1 (inl f))
  fault_wrong (byte_seven f) = or_right (sides || kinds || left || right) spare ((word_not_zero (byte_at r 6) (byte_at r 7)).1 (inr f))

-- "side or kind not 1 or 2, a term number not in the table, bytes 6-7 not zero"
pub breaks_literal_is : (n : ℕ) (bs : List ℕ) (k : ℕ) → T (breaks_literal n bs k) ↔ LiteralFault n (literal_record bs k)
unfolding breaks_literal
breaks_literal_is n bs k = (wrong_fault n (literal_record bs k), fault_wrong n (literal_record bs k))

-- How long a text can be: what eqsplit prints of an answer fits in 65,536 bytes, and where a text fits all of it is shown.
use mathlib.Core.List.Memᴰ
use mathlib.Core.List.{List, [], ◌∷◌, ◌++◌, map, flat_map, Memᴰ}
use mathlib.Core.Logic.{⊎_elim}
use mathlib.Core.Path.{◌≡◌, refl, sym, ap₂, subst, ◌∙◌}
use Prim.Native.Nat.{ℕ, ◌+◌, ◌*◌, ◌^◌, ◌≤◌, ◌<◌, min}
use native.Mathlib.Nat.{mul-suc}
use native.Mathlib.Omega.{arith}
use lib.Dec.{eqb}
use lib.ListN.{length, drop, length-append, length-map, length-drop}
use lib.Seq.{take_all}
use borrow.Author.Tests.{eqb-true, eqb-false}
use Rattle.tables.specs.Words.{below, Pair}
use Rattle.tables.specs.Bytes.{AllBytes, byte_at, word_at, record_at, count_of}
use Rattle.tables.proofs.Words.{by_test, below_mem, length_below}
use Rattle.tables.proofs.WordBytes.{byte_small}
use Rattle.clauses.specs.Clauses.{Clause}
use Rattle.clauses.specs.ReadBack.{pair_read, conclusion_read, clauses_after}
use Rattle.clauses.proofs.Records.{equal_read, different_read, false_read, after_last, after_premise, after_conclusion, clauses_first}
use Rattle.demands.specs.declared.Answer.{Answer}
use Rattle.demands.specs.declared.Answer.TheVariants.{Consistent, Inconsistent, Refused}
use Rattle.report.specs.Page.{page, shown}
use Rattle.report.specs.Text.{ascii, decimal, class_of, term_line, argument_text, added_line, pair_text, and_pair, premises_text, conclusion_text, clause_line, consistent_text, head_text, end_text, inconsistent_text, refused_text, report_of}
use Rattle.std.proofs.lemmas.Fmt.{length-decimal-le}
use Rattle.report.proofs.Digits.{as_std}

-- where a text fits, all of it is shown
pub shown_whole : (text buffer : List ℕ) → length text ≤ length buffer → shown text buffer ≡ page (text ++ drop (length text) buffer) (length text)
shown_whole text buffer h = ap₂ page (take_all (length buffer) (text ++ drop (length text) buffer) whole) (omega arith)
  where
    whole : length (text ++ drop (length text) buffer) ≤ length buffer
    whole = omega (arith, length-append text (drop (length text) buffer), length-drop (length text) buffer)

-- three digits are enough for a term's number,
three : (n : ℕ) → n < 1000 → length (decimal n) ≤ 3
three n h = rw (← as_std n (omega arith)) (length-decimal-le 3 n (omega arith) h (omega arith))

-- five for a word,
five : (n : ℕ) → n < 65536 → length (decimal n) ≤ 5
five n h = rw (← as_std n (omega arith)) (length-decimal-le 5 n (omega arith) (omega arith) (omega arith))

-- and twenty for any number
twenty : (n : ℕ) → n < 2 ^ 64 → length (decimal n) ≤ 20
twenty n h = rw (← as_std n h) (length-decimal-le 20 n (omega arith) (omega arith) h)

-- a word of two bytes is below 65536
word_small : (bs : List ℕ) → AllBytes bs → (i : ℕ) → word_at bs i < 65536
word_small bs h i = omega (arith, byte_small bs h i, byte_small bs h (i + 1))

-- texts of at most so many bytes each
flat_map_few {ℓ} : {A : Type ℓ} (b : ℕ) (f : A → List ℕ) (xs : List A) → ((x : A) → Memᴰ x xs → length (f x) ≤ b) → length (flat_map f xs) ≤ b * length xs
unfolding flat_map
flat_map_few b f [] h = omega arith
flat_map_few b f (x ∷ xs) h = omega (arith, length-append (f x) (flat_map f xs), mul-suc b (length xs), h x (Memᴰ.head refl), flat_map_few b f xs (λ y m. h y (Memᴰ.tail m)))

-- the texts of the numbers below n
below_few : (b n : ℕ) (f : ℕ → List ℕ) → ((i : ℕ) → i < n → length (f i) ≤ b) → length (flat_map f (below n)) ≤ b * n
below_few b n f h = rw length_below at (flat_map_few b f (below n) (λ i m. h i (below_mem n m)))

-- the end of a term's line
class_few : (class : ℕ) → class < 65536 → length (class_of class) ≤ 13
unfolding class_of
class_few class h = by_test (eqb class 65535) (λ e. rw e (omega arith)) (λ e. rw e (simp length-append (omega (arith, five class h))))

-- a term's line
term_few : (partition : List ℕ) → AllBytes partition → (i : ℕ) → i < 256 → length (term_line partition i) ≤ 21
unfolding term_line
term_few partition b i h = simp length-append (omega (arith, three i (omega arith), class_few (word_at partition (2 * i)) (word_small partition b (2 * i))))

-- an added term's argument
argument_few : (added : List ℕ) → AllBytes added → (i j : ℕ) → length (argument_text added i j) ≤ 6
unfolding argument_text
argument_few added b i j = simp length-append (omega (arith, five (word_at added (16 * i + 4 + 2 * j)) (word_small added b (16 * i + 4 + 2 * j))))

-- an added term's line
added_few : (n : ℕ) (added : List ℕ) → AllBytes added → (i : ℕ) → n ≤ 256 → i < 255 → length (added_line n added i) ≤ 38
unfolding added_line
added_few n added b i h k =
    let arguments = below_few 6 (min (byte_at added (16 * i + 2)) 4) (argument_text added i) (λ j l. argument_few added b i j) in
    simp length-append (omega (arith, arguments, three (n + i) (omega arith), five (word_at added (16 * i)) (word_small added b (16 * i))))

-- ---- clauses

-- both numbers are below 1000, as all term numbers of a run are
abbrev pub Short : Pair → Type 0
Short p = (p.left < 1000) × (p.right < 1000)

-- the text of a pair of terms' numbers
pair_few : (sign : List ℕ) (p : Pair) → Short p → length (pair_text sign p) ≤ 6 + length sign
unfolding pair_text
pair_few sign p h = simp length-append (omega (arith, three p.left h.0, three p.right h.1))

-- a premise that is not the first
and_few : (p : Pair) → Short p → length (and_pair p) ≤ 10
unfolding and_pair
and_few p h = simp length-append (omega (arith, three p.left h.0, three p.right h.1))

-- the premises with their arrow
premises_few : (ps : List Pair) → ((p : Pair) → Memᴰ p ps → Short p) → length (premises_text ps) ≤ 10 * length ps + 3
unfolding premises_text
premises_few [] h = omega arith
premises_few (p ∷ ps) h =
    let short = h p (Memᴰ.head refl) in
    simp length-append (omega (arith, three p.left short.0, three p.right short.1, flat_map_few 10 and_pair ps (λ q m. and_few q (h q (Memᴰ.tail m)))))

-- what a record concludes
conclusion_few : (r : List ℕ) → Short (pair_read r) → length (conclusion_text (conclusion_read r)) ≤ 8
unfolding conclusion_text
conclusion_few r h =
    by_test (eqb (byte_at r 0) 2) (λ e. rw (equal_read r (eqb-true (byte_at r 0) 2 e)) (omega (arith, pair_few (ascii "=") (pair_read r) h)))
    (λ e. by_test (eqb (byte_at r 0) 3) (λ d. rw (different_read r (eqb-true (byte_at r 0) 3 d)) (omega (arith, pair_few (ascii "!=") (pair_read r) h))) (λ d. rw (false_read r (eqb-false (byte_at r 0) 2 e) (eqb-false (byte_at r 0) 3 d)) (omega arith)))

-- a clause's line
line_few : (ps : List Pair) (r : List ℕ) → ((p : Pair) → Memᴰ p ps → Short p) → Short (pair_read r) → length (clause_line (record { premises = ps; conclusion = conclusion_read r })) ≤ 10 * length ps + 12
unfolding clause_line
line_few ps r h k = simp length-append (omega (arith, premises_few ps h, conclusion_few r k))

-- all lines behind some premises
lines_few : (ps : List Pair) (rs : List (List ℕ)) → ((p : Pair) → Memᴰ p ps → Short p) → ((r : List ℕ) → Memᴰ r rs → Short (pair_read r)) → length (flat_map clause_line (clauses_after ps rs)) ≤ 10 * length ps + 13 * length rs
unfolding flat_map
lines_few ps [] h k = rw (after_last ps) (omega arith)
lines_few ps (r ∷ rs) h k =
    by_test (eqb (byte_at r 0) 1)
    (λ e. rw (after_premise ps r rs (eqb-true (byte_at r 0) 1 e)) (omega (arith, length-append ps (pair_read r ∷ []), lines_few (ps ++ (pair_read r ∷ [])) rs (λ p m. ⊎_elim (h p) (λ w. subst Short (sym (Memᴰ.eq_of_singleton w)) (k r (Memᴰ.head refl))) (Memᴰ.append_cases ps m)) (λ q m. k q (Memᴰ.tail m)))))
    (λ e. rw (after_conclusion ps r rs (eqb-false (byte_at r 0) 1 e)) (omega (arith, length-append (clause_line (record { premises = ps; conclusion = conclusion_read r })) (flat_map clause_line (clauses_after [] rs)), line_few ps r h (k r (Memᴰ.head refl)), lines_few [] rs (λ p m. absurd (Memᴰ.not-nil m)) (λ q m. k q (Memᴰ.tail m)))))

-- ---- the whole text

-- the numbers that an answer carries fit a usize
abbrev pub Carries : Answer → Type 0
Carries Consistent = Unit
Carries (Inconsistent d a k) = (d < 2 ^ 64) × (a < 2 ^ 64) × (k < 2 ^ 64)
Carries (Refused number place) = (number < 2 ^ 64) × (place < 2 ^ 64)

-- how many clause records the text of an answer shows
abbrev pub records_shown : Answer → List ℕ → ℕ
records_shown Consistent clauses = 0
records_shown (Inconsistent d a k) clauses = min k (count_of 8 clauses)
records_shown (Refused number place) clauses = 0

module _ (partition added clauses : List ℕ) (given : ℕ) where
  -- of a consistent answer
  consistent_few : AllBytes partition → length (consistent_text given partition) ≤ 65536
  unfolding consistent_text
  consistent_few b = simp length-append (omega (arith, below_few 21 (min given 256) (term_line partition) (λ i h. term_few partition b i (omega arith))))

  -- of an inconsistent one
  inconsistent_few : (d a k : ℕ) → AllBytes added → length clauses ≤ 32768 → ((j : ℕ) → j < min k (count_of 8 clauses) → Short (pair_read (record_at 8 clauses j))) → (d < 2 ^ 64) × (a < 2 ^ 64) × (k < 2 ^ 64) → length (inconsistent_text d a k given added clauses) ≤ 65536
  unfolding inconsistent_text head_text end_text
  inconsistent_few d a k b l short n =
      let terms = below_few 38 (min a 255) (added_line (min given 256) added) (λ i h. added_few (min given 256) added b i (omega arith) (omega arith)) in
      let records = map (record_at 8 clauses) (below (min k (count_of 8 clauses))) in
      let small : (r : List ℕ) → Memᴰ r records → Short (pair_read r) = λ r m. let w = Memᴰ.of_map (record_at 8 clauses) (below (min k (count_of 8 clauses))) m in subst (λ (x : List ℕ). Short (pair_read x)) w.2 (short w.0 (below_mem (min k (count_of 8 clauses)) w.1)) in
      let count : length records ≡ min k (count_of 8 clauses) = length-map (below (min k (count_of 8 clauses))) (record_at 8 clauses) ∙ length_below (min k (count_of 8 clauses)) in
      let lines = subst (λ (cs : List Clause). length (flat_map clause_line cs) ≤ 0 + 13 * length records) (sym (clauses_first (min k (count_of 8 clauses)) clauses)) (lines_few [] records (λ p m. absurd (Memᴰ.not-nil m)) small) in
      simp length-append (omega (arith, terms, lines, twenty d n.0, twenty a n.1, twenty k n.2))

  -- what eqsplit prints fits in 65,536 bytes: it lends 32,768 bytes for the clauses, and the term numbers in their records are below 1000
  pub text_fits : (answer : Answer) → Carries answer → AllBytes partition → AllBytes added → length clauses ≤ 32768 → ((j : ℕ) → j < records_shown answer clauses → Short (pair_read (record_at 8 clauses j))) → length (report_of answer given partition added clauses) ≤ 65536
  unfolding report_of refused_text
  text_fits Consistent n b c l short = consistent_few b
  text_fits (Inconsistent d a k) n b c l short = inconsistent_few d a k c l short n
  text_fits (Refused number place) n b c l short = simp length-append (omega (arith, twenty number n.0, twenty place n.1))

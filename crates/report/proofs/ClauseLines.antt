-- Laws of the clauses' lines: records by their place, premises one by one, and the lines that are left.
use mathlib.Core.List.{List, [], ◌∷◌, ◌++◌, map, flat_map, append_assoc, append-nil, map-append}
use mathlib.Core.Path.{◌≡◌, refl, sym, ap, ap₂, ◌∙◌}
use Prim.Native.Nat.{ℕ, zero, suc, ◌+◌, ◌*◌, ◌-◌, ◌≤◌, ◌<◌}
use native.Mathlib.Nat.{add-zero, zero-add, add_assoc}
use native.Mathlib.Numerals.{add-one}
use native.Mathlib.Omega.{arith}
use lib.ListN.{drop}
use lib.Seq.{get_or-take, get_or-drop}
use Rattle.tables.specs.Words.{below, Pair}
use Rattle.tables.specs.Bytes.{byte_at, word_at, record_at}
use Rattle.tables.proofs.Words.{below_none, below_more}
use Rattle.clauses.specs.ReadBack.{pair_read, conclusion_read, clauses_after, clauses_read}
use Rattle.clauses.proofs.Records.{pair_words, equal_read, different_read, false_read, after_last, after_premise, after_conclusion, clauses_first}
use Rattle.report.specs.Text.{ascii, decimal, pair_text, and_pair, premises_text, conclusion_text, clause_line}
use Rattle.report.specs.Records.{up_from, pairs_from, clause_of}

-- a record's byte by its place in the buffer
pub byte_in_record : (bs : List ℕ) (j k : ℕ) → k < 8 → byte_at (record_at 8 bs j) k ≡ byte_at bs (8 * j + k)
byte_in_record bs j k h = get_or-take 8 (drop (8 * j) bs) k 0 h ∙ get_or-drop (8 * j) bs k 0

-- a record's word by its place in the buffer
pub word_in_record : (bs : List ℕ) (j k : ℕ) → k + 1 < 8 → word_at (record_at 8 bs j) k ≡ word_at bs (8 * j + k)
word_in_record bs j k h =
    ap₂ (λ (low high : ℕ). low + 256 * high) (byte_in_record bs j k (omega arith)) (byte_in_record bs j (k + 1) h ∙ ap (byte_at bs) (sym (add_assoc (8 * j) k 1)))

-- the text of a record's pair by its words' places in the buffer
pub pair_shown : (sign bs : List ℕ) (j : ℕ) → pair_text sign (pair_read (record_at 8 bs j)) ≡ decimal (word_at bs (8 * j + 2)) ++ sign ++ decimal (word_at bs (8 * j + 4))
unfolding pair_text
pair_shown sign bs j = ap (pair_text sign) (pair_words (record_at 8 bs j)) ∙ ap₂ (λ (left right : ℕ). decimal left ++ sign ++ decimal right) (word_in_record bs j 2 (omega arith)) (word_in_record bs j 4 (omega arith))

-- a record's kind by its place in the buffer
kind_at : (bs : List ℕ) (j : ℕ) → byte_at (record_at 8 bs j) 0 ≡ byte_at bs (8 * j)
kind_at bs j = byte_in_record bs j 0 (omega arith) ∙ ap (byte_at bs) (add-zero (8 * j))

-- ---- conclusions

-- kind 2 concludes an equality
pub conclusion_equal : (bs : List ℕ) (j : ℕ) → byte_at bs (8 * j) ≡ 2 → conclusion_text (conclusion_read (record_at 8 bs j)) ≡ pair_text (ascii "=") (pair_read (record_at 8 bs j))
unfolding conclusion_text
conclusion_equal bs j e = ap conclusion_text (equal_read (record_at 8 bs j) (kind_at bs j ∙ e))

-- kind 3 concludes a disequality
pub conclusion_different : (bs : List ℕ) (j : ℕ) → byte_at bs (8 * j) ≡ 3 → conclusion_text (conclusion_read (record_at 8 bs j)) ≡ pair_text (ascii "!=") (pair_read (record_at 8 bs j))
unfolding conclusion_text
conclusion_different bs j e = ap conclusion_text (different_read (record_at 8 bs j) (kind_at bs j ∙ e))

-- any other kind concludes false
pub conclusion_false : (bs : List ℕ) (j : ℕ) → (byte_at bs (8 * j) ≡ 2 → ⊥) → (byte_at bs (8 * j) ≡ 3 → ⊥) → conclusion_text (conclusion_read (record_at 8 bs j)) ≡ ascii "false"
unfolding conclusion_text
conclusion_false bs j not-two not_three = ap conclusion_text (false_read (record_at 8 bs j) (λ e. not-two (sym (kind_at bs j) ∙ e)) (λ e. not_three (sym (kind_at bs j) ∙ e)))

-- ---- numbers from one on

-- one more at the end
up_from_last : (s n : ℕ) → up_from s (suc n) ≡ up_from s n ++ ((s + n) ∷ [])
unfolding up_from
up_from_last s zero = ap (λ (k : ℕ). k ∷ []) (sym (add-zero s))
up_from_last s (suc n) = ap (λ (ks : List ℕ). s ∷ ks) (up_from_last (suc s) n ∙ ap (λ (k : ℕ). up_from (suc s) n ++ (k ∷ [])) (omega arith))

-- the numbers below n are those from 0 on
below_up_from : (n : ℕ) → below n ≡ up_from 0 n
unfolding up_from
below_up_from zero = below_none
below_up_from (suc n) = ap below (sym (add-one n)) ∙ below_more n ∙ ap₂ (λ (ks : List ℕ) (k : ℕ). ks ++ (k ∷ [])) (below_up_from n) (sym (zero-add n)) ∙ sym (up_from_last 0 n)

-- from j on, the first one and those behind it
up_from_first : (j k : ℕ) → j < k → up_from j (k - j) ≡ j ∷ up_from (j + 1) (k - (j + 1))
unfolding up_from
up_from_first j k h = ap (up_from j) (gap) ∙ ap (λ (m : ℕ). j ∷ up_from m (k - (j + 1))) (sym (add-one j))
  where
    gap : k - j ≡ suc (k - (j + 1))
    gap = omega arith

-- up to j and j itself
up_from_more : (s j : ℕ) → s ≤ j → up_from s (j + 1 - s) ≡ up_from s (j - s) ++ (j ∷ [])
up_from_more s j h = ap (up_from s) gap ∙ up_from_last s (j - s) ∙ ap (λ (k : ℕ). up_from s (j - s) ++ (k ∷ [])) back
  where
    gap : j + 1 - s ≡ suc (j - s)
    gap = omega arith

    back : s + (j - s) ≡ j
    back = omega arith

-- the pairs up to j and that of j
pairs_more : (bs : List ℕ) (s j : ℕ) → s ≤ j → pairs_from bs s (j + 1 - s) ≡ pairs_from bs s (j - s) ++ (pair_read (record_at 8 bs j) ∷ [])
unfolding pairs_from
pairs_more bs s j h = ap (map (λ i. pair_read (record_at 8 bs i))) (up_from_more s j h) ∙ map-append (λ i. pair_read (record_at 8 bs i)) (up_from s (j - s)) (j ∷ [])

-- no pairs
pub pairs_none : (bs : List ℕ) (s j : ℕ) → s ≡ j → pairs_from bs s (j - s) ≡ []
unfolding pairs_from up_from
pairs_none bs s j h = ap (λ (n : ℕ). map (λ i. pair_read (record_at 8 bs i)) (up_from s n)) none
  where
    none : j - s ≡ 0
    none = omega arith

-- the first pair and those behind it
pub pairs_first : (bs : List ℕ) (s j : ℕ) → s < j → pairs_from bs s (j - s) ≡ pair_read (record_at 8 bs s) ∷ pairs_from bs (s + 1) (j - (s + 1))
unfolding pairs_from
pairs_first bs s j h = ap (map (λ i. pair_read (record_at 8 bs i))) (up_from_first s j h)

-- ---- premises

-- the text of one premise more
and_last : (ps : List Pair) (p : Pair) → flat_map and_pair (ps ++ (p ∷ [])) ≡ flat_map and_pair ps ++ and_pair p
unfolding flat_map
and_last [] p = append-nil (and_pair p)
and_last (q ∷ ps) p = ap (λ (bs : List ℕ). and_pair q ++ bs) (and_last ps p) ∙ sym (append_assoc (and_pair q) (flat_map and_pair ps) (and_pair p))

-- the premises from the first to one, and that one
pub premises_more : (bs : List ℕ) (s j : ℕ) → s ≤ j → flat_map and_pair (pairs_from bs s (j + 1 - s)) ≡ flat_map and_pair (pairs_from bs s (j - s)) ++ and_pair (pair_read (record_at 8 bs j))
premises_more bs s j l = ap (flat_map and_pair) (pairs_more bs s j l) ∙ and_last (pairs_from bs s (j - s)) (pair_read (record_at 8 bs j))

-- there are none before the first
pub premises_none : (bs : List ℕ) (s : ℕ) → flat_map and_pair (pairs_from bs s (s - s)) ≡ []
unfolding flat_map
premises_none bs s = ap (flat_map and_pair) (pairs_none bs s s refl)

-- a clause without premises
pub text_none : (bs : List ℕ) (s j : ℕ) → s ≡ j → premises_text (pairs_from bs s (j - s)) ≡ ascii "-> "
unfolding premises_text
text_none bs s j h = ap premises_text (pairs_none bs s j h)

-- a clause with premises
pub text_some : (bs : List ℕ) (s j : ℕ) → s < j → premises_text (pairs_from bs s (j - s)) ≡ pair_text (ascii "=") (pair_read (record_at 8 bs s)) ++ flat_map and_pair (pairs_from bs (s + 1) (j - (s + 1))) ++ ascii " -> "
unfolding premises_text
text_some bs s j h = ap premises_text (pairs_first bs s j h)

-- ---- what is left

-- the lines that are left at record i of k, where the premises of the open clause start at s
pub left : List ℕ → ℕ → ℕ → ℕ → List ℕ
left bs s i k = flat_map clause_line (clauses_after (pairs_from bs s (i - s)) (map (record_at 8 bs) (up_from i (k - i))))

-- at first all lines are left
pub left_all : (bs : List ℕ) (k : ℕ) → left bs 0 0 k ≡ flat_map clause_line (clauses_read k bs)
unfolding left pairs_from up_from
left_all bs k = ap (λ (ks : List ℕ). flat_map clause_line (clauses_after [] (map (record_at 8 bs) ks))) (sym (below_up_from k ∙ ap (up_from 0) whole)) ∙ ap (flat_map clause_line) (sym (clauses_first k bs))
  where
    whole : k ≡ k - 0
    whole = omega arith

-- behind the last record none is
pub left_none : (bs : List ℕ) (s i k : ℕ) → k ≤ i → left bs s i k ≡ []
unfolding left up_from flat_map
left_none bs s i k h = ap (λ (n : ℕ). flat_map clause_line (clauses_after (pairs_from bs s (i - s)) (map (record_at 8 bs) (up_from i n)))) none ∙ ap (flat_map clause_line) (after_last (pairs_from bs s (i - s)))
  where
    none : k - i ≡ 0
    none = omega arith

-- the clauses at record i, which is taken off the records
at_record : (bs : List ℕ) (ps : List Pair) (i k : ℕ) → i < k → clauses_after ps (map (record_at 8 bs) (up_from i (k - i))) ≡ clauses_after ps (record_at 8 bs i ∷ map (record_at 8 bs) (up_from (i + 1) (k - (i + 1))))
at_record bs ps i k h = ap (λ (ks : List ℕ). clauses_after ps (map (record_at 8 bs) ks)) (up_from_first i k h)

-- so the lines that are left at a premise are those left behind it,
pub left_premise : (bs : List ℕ) (s i k : ℕ) → byte_at bs (8 * i) ≡ 1 → s ≤ i → i < k → left bs s i k ≡ left bs s (i + 1) k
unfolding left
left_premise bs s i k one h l =
    ap (flat_map clause_line)
    (at_record bs (pairs_from bs s (i - s)) i k l ∙
    after_premise (pairs_from bs s (i - s)) (record_at 8 bs i) (map (record_at 8 bs) (up_from (i + 1) (k - (i + 1)))) (kind_at bs i ∙ one) ∙
    ap (λ (ps : List Pair). clauses_after ps (map (record_at 8 bs) (up_from (i + 1) (k - (i + 1))))) (sym (pairs_more bs s i h)))

-- and at a conclusion the clause's own line is the first of them
pub left_clause : (bs : List ℕ) (s i k : ℕ) → (byte_at bs (8 * i) ≡ 1 → ⊥) → i < k → left bs s i k ≡ clause_line (clause_of bs s i) ++ left bs (i + 1) (i + 1) k
unfolding left clause_of flat_map
left_clause bs s i k not-one l =
    ap (flat_map clause_line)
    (at_record bs (pairs_from bs s (i - s)) i k l ∙
    after_conclusion (pairs_from bs s (i - s)) (record_at 8 bs i) (map (record_at 8 bs) (up_from (i + 1) (k - (i + 1)))) (λ one. not-one (sym (kind_at bs i) ∙ one)) ∙
    ap (λ (ps : List Pair). clause_of bs s i ∷ clauses_after ps (map (record_at 8 bs) (up_from (i + 1) (k - (i + 1))))) (sym (pairs_none bs (i + 1) (i + 1) refl)))

-- Records written one behind the other: the place of a record, and the bytes of all where they fit.
use mathlib.Core.Bool.{Bool, true, false, cond}
use mathlib.Core.List.Memᴰ
use mathlib.Core.List.{List, [], ◌∷◌, ◌++◌, map, flat_map, append_assoc, append-nil, map-append, Memᴰ}
use mathlib.Core.Logic.{◌⊎◌, inl, inr, ⊎_elim, ◌↔◌}
use mathlib.Core.Path.{◌≡◌, refl, sym, ap, ap₂, subst, ◌∙◌}
use Prim.Native.Nat.{ℕ, ◌+◌, ◌*◌, ◌≤◌, ◌<◌}
use native.Mathlib.Omega.{arith}
use borrow.Author.Tests.{leb-true, leb-false, le-leb, lt-leb, lt-ltb, le-ltb}
use borrow.Rule.Slice.PartMut.{put_mid}
use lib.Dec.{T, leb, ltb, ltb→lt, not_T}
use lib.ListN.{length, get_or, set, take, drop, length-append, length-drop, length-set}
use lib.Seq.{length-take-le, take_at, drop-append-add, drop-drop, get_or-set_same, get_or-set_other}
use Rattle.std.proofs.lemmas.List.{take_all}
use Rattle.std.proofs.lemmas.Slice.{put_mid-paste}
use Rattle.tables.specs.Words.{Pair, pair, below, keep, pairs_below}
use Rattle.tables.proofs.Words.{by_test, below_mem, same_test, keep_mem, failed, keep_empty, keep_passes, keep_fails, keep_append, keep_none, keep_agree, below_more, flat_map_below_none, flat_map_below_more, pairs_below_rows}
use Rattle.clauses.specs.Records.{clause_record}
use Rattle.summing.specs.declared.writing.Records.{Records}
use Rattle.summing.specs.Writing.{put_record, put_records, marked, row_pairs, Sheet, sheet_of, Lent, RecordsPut, premise_records, RowCleared, RowOut, AllOut}
use Rattle.marking.specs.Marks.{PairWithin, place_of, PairMarked, Marked, Covered}
use Rattle.marking.proofs.Squares.{same_or_not, one_place, within_square}
use Rattle.clauses.proofs.Records.{record_length}

-- a record that fits
pub put_fits : (at : ℕ) (r out : List ℕ) → 8 * at + 8 ≤ length out → put_record at r out ≡ take (8 * at) out ++ r ++ drop (8 * at + 8) out
unfolding put_record
put_fits at r out h = ap (λ (b : Bool). cond b (take (8 * at) out ++ r ++ drop (8 * at + 8) out) out) (le-leb _ _ h)

-- and one that does not
pub put_not : (at : ℕ) (r out : List ℕ) → length out < 8 * at + 8 → put_record at r out ≡ out
unfolding put_record
put_not at r out h = ap (λ (b : Bool). cond b (take (8 * at) out ++ r ++ drop (8 * at + 8) out) out) (lt-leb _ _ h)

-- a record copied over its place
pub put_over : (at k : ℕ) (bytes r out : List ℕ) → bytes ≡ r → k ≡ 8 → length r ≡ 8 → 8 * at + 8 ≤ length out → put_mid (8 * at) k out bytes ≡ put_record at r out
put_over at k bytes r out b q e h =
    put_mid-paste (8 * at) k out bytes r 8 b (sym q) (sym e) ∙
    ap (λ (x : List ℕ). take (8 * at) out ++ x ++ drop (8 * at + 8) out) (take_all 8 r (omega (arith, e))) ∙
    sym (put_fits at r out h)

-- ---- one behind the other

-- some records and then others
pub put_append : (at : ℕ) (rs more : List (List ℕ)) (out : List ℕ) → put_records at (rs ++ more) out ≡ put_records (at + length rs) more (put_records at rs out)
unfolding put_records
put_append at [] more out = ap (λ (n : ℕ). put_records n more out) (omega arith)
put_append at (r ∷ rs) more out =
    put_append (at + 1) rs more (put_record at r out) ∙
    ap (λ (n : ℕ). put_records n more (put_records (at + 1) rs (put_record at r out))) (omega arith)

-- no record changes how long the buffer is
pub put_length : (at : ℕ) (r out : List ℕ) → length r ≡ 8 → length (put_record at r out) ≡ length out
put_length at r out e =
    by_test (leb (8 * at + 8) (length out))
    (λ q. let h = leb-true _ _ q in ap length (put_fits at r out h) ∙ simp (length-append, length-drop) (omega (arith, e, length-take-le (8 * at) out (omega arith))))
    (λ q. ap length (put_not at r out (leb-false _ _ q)))

-- nor do several
pub puts_length : (at : ℕ) (rs : List (List ℕ)) (out : List ℕ) → ((r : List ℕ) → Memᴰ r rs → length r ≡ 8) → length (put_records at rs out) ≡ length out
unfolding put_records
puts_length at [] out e = refl
puts_length at (r ∷ rs) out e = puts_length (at + 1) rs (put_record at r out) (λ x m. e x (Memᴰ.tail m)) ∙ put_length at r out (e r (Memᴰ.head refl))

-- no record
pub records_none : (b : Sheet) → RecordsPut [] b b
unfolding put_records
records_none b = record { count = omega arith; bytes = refl }

-- one record
pub records_one : (r : List ℕ) (b b' : Sheet) → b'.count ≡ b.count + 1 → b'.bytes ≡ put_record b.count r b.bytes → RecordsPut (r ∷ []) b b'
unfolding put_records
records_one r b b' c e = record { count = c; bytes = e }

-- the same record under another name
pub record_as : {r r' : List ℕ} {b b' : Sheet} → r ≡ r' → RecordsPut (r ∷ []) b b' → RecordsPut (r' ∷ []) b b'
record_as {b = b} {b' = b'} e x = subst (λ (y : List ℕ). RecordsPut (y ∷ []) b b') e x

-- some records and then others
pub records_append : (rs more : List (List ℕ)) (b b' b'' : Sheet) → RecordsPut rs b b' → RecordsPut more b' b'' → RecordsPut (rs ++ more) b b''
records_append rs more b b' b'' x y =
    record {
      count = omega (arith, x.count, y.count, length-append rs more);
      bytes = y.bytes ∙ ap₂ (λ (k : ℕ) (o : List ℕ). put_records k more o) x.count x.bytes ∙ sym (put_append b.count rs more b.bytes);
    }

-- some premises and then others
pub premises_append : (ps qs : List Pair) (b b' b'' : Sheet) → RecordsPut (premise_records ps) b b' → RecordsPut (premise_records qs) b' b'' → RecordsPut (premise_records (ps ++ qs)) b b''
premises_append ps qs b b' b'' x y =
    subst (λ (rs : List (List ℕ)). RecordsPut rs b b'') (sym (map-append (clause_record 1) ps qs)) (records_append (premise_records ps) (premise_records qs) b b' b'' x y)

-- records do not change how long the buffer is
pub records_length : (rs : List (List ℕ)) → ((r : List ℕ) → Memᴰ r rs → length r ≡ 8) → (b b' : Sheet) → RecordsPut rs b b' → length b'.bytes ≡ length b.bytes
records_length rs e b b' x = ap length x.bytes ∙ puts_length b.count rs b.bytes e

-- nor do premises
pub premises_length : (ps : List Pair) (b b' : Sheet) → RecordsPut (premise_records ps) b b' → length b'.bytes ≡ length b.bytes
premises_length ps =
    records_length (premise_records ps) (λ r m. let q = Memᴰ.of_map (clause_record 1) ps m in ap length (sym q.2) ∙ record_length 1 q.0)

-- ---- rows of pairs

-- one pair, which is kept where it passes
module _ {ℓ} {A : Type ℓ} (p : A → Bool) (x : A) where
  pub keep_one : p x ≡ true → keep p (x ∷ []) ≡ x ∷ []
  keep_one e = keep_passes p x [] e ∙ ap (λ (l : List A). x ∷ l) (keep_empty p)

  -- and is not where it fails
  pub keep_not : p x ≡ false → keep p (x ∷ []) ≡ []
  keep_not e = keep_fails p x [] e ∙ keep_empty p

-- the row has no pair up to its own number
pub row_empty : (u : ℕ) → row_pairs (u + 1) u ≡ []
row_empty u = ap (map (pair u)) (keep_none (ltb u) (below (u + 1)) (λ k m. le-ltb u k (omega (arith, below_mem (u + 1) m))))

-- and then one for each number
pub row_more : (u v : ℕ) → u < v → row_pairs (v + 1) u ≡ row_pairs v u ++ (pair u v ∷ [])
row_more u v h =
    ap (λ (l : List ℕ). map (pair u) (keep (ltb u) l)) (below_more v) ∙
    ap (map (pair u)) (keep_append (ltb u) (below v) (v ∷ []) ∙ ap (λ (l : List ℕ). keep (ltb u) (below v) ++ l) (keep_one (ltb u) v (lt-ltb u v h))) ∙
    map-append (pair u) (keep (ltb u) (below v)) (v ∷ [])

-- a pair of the row
row_mem : (n u : ℕ) (p : Pair) → Memᴰ p (row_pairs n u) → (k : ℕ) × (u < k) × (k < n) × (p ≡ pair u k)
row_mem n u p m =
    let q = Memᴰ.of_map (pair u) (keep (ltb u) (below n)) m in
    let k = keep_mem (ltb u) (below n) q.1 in
    (q.0, ltb→lt u q.0 k.1, below_mem n k.0, sym q.2)

-- a row that is not marked has no marked pair
pub row_unmarked : (n u : ℕ) → n ≤ 511 → (found rows : List Bool) → Covered found rows → get_or rows u false ≡ false → keep (marked found) (row_pairs n u) ≡ []
row_unmarked n u small found rows cover e =
    keep_none (marked found) (row_pairs n u)
    (λ p m. let q = row_mem n u p m in let w : PairWithin 511 p = subst (PairWithin 511) (sym q.3) (q.1, omega (arith, q.2)) in failed (marked found p) (not_T (marked found p) (λ z. subst T (ap (λ (y : Pair). get_or rows y.left false) q.3 ∙ e) (cover p w z))))

-- the marked pairs of a row with one column more
module _ (marks : List Bool) (u v : ℕ) (h : u < v) where
  row_kept : keep (marked marks) (row_pairs (v + 1) u) ≡ keep (marked marks) (row_pairs v u) ++ keep (marked marks) (pair u v ∷ [])
  row_kept = ap (keep (marked marks)) (row_more u v h) ∙ keep_append (marked marks) (row_pairs v u) (pair u v ∷ [])

  -- which is marked there
  pub row_with : marked marks (pair u v) ≡ true → keep (marked marks) (row_pairs (v + 1) u) ≡ keep (marked marks) (row_pairs v u) ++ (pair u v ∷ [])
  row_with e = row_kept ∙ ap (λ (l : List Pair). keep (marked marks) (row_pairs v u) ++ l) (keep_one (marked marks) (pair u v) e)

  -- or is not
  pub row_without : marked marks (pair u v) ≡ false → keep (marked marks) (row_pairs (v + 1) u) ≡ keep (marked marks) (row_pairs v u)
  row_without e =
      row_kept ∙ ap (λ (l : List Pair). keep (marked marks) (row_pairs v u) ++ l) (keep_not (marked marks) (pair u v) e) ∙ append-nil (keep (marked marks) (row_pairs v u))

-- the marked pairs of the rows before u
abbrev pub rows_before : ℕ → List Bool → ℕ → List Pair
rows_before n marks u = keep (marked marks) (flat_map (row_pairs n) (below u))

module _ (n : ℕ) (marks : List Bool) where
  -- none before the first
  pub rows_first : rows_before n marks 0 ≡ []
  rows_first = ap (keep (marked marks)) (flat_map_below_none (row_pairs n)) ∙ keep_empty (marked marks)

  -- with one row more
  pub rows_with : (u : ℕ) → rows_before n marks (u + 1) ≡ rows_before n marks u ++ keep (marked marks) (row_pairs n u)
  rows_with u = ap (keep (marked marks)) (flat_map_below_more (row_pairs n) u) ∙ keep_append (marked marks) (flat_map (row_pairs n) (below u)) (row_pairs n u)

  -- in which nothing is marked
  pub rows_without : (u : ℕ) → n ≤ 511 → (rows : List Bool) → Covered marks rows → get_or rows u false ≡ false → rows_before n marks (u + 1) ≡ rows_before n marks u
  rows_without u small rows cover e =
      rows_with u ∙ ap (λ (l : List Pair). rows_before n marks u ++ l) (row_unmarked n u small marks rows cover e) ∙ append-nil (rows_before n marks u)

  -- all of them
  pub rows_whole : (u : ℕ) → u ≡ n → keep (marked marks) (pairs_below n) ≡ rows_before n marks u
  rows_whole u e = ap (keep (marked marks)) (pairs_below_rows n) ∙ ap (rows_before n marks) (sym e)

-- ---- marks taken away

-- with one mark fewer, what was marked is, but for that place
pub marked_fewer : (marks : List Bool) (t k : ℕ) → t < length marks → Marked (set marks t false) k ↔ (Marked marks k × (k ≡ t → ⊥))
marked_fewer marks t k h =
    same_or_not k t
    (λ e. let q : get_or (set marks t false) k false ≡ false = ap (λ (x : ℕ). get_or (set marks t false) x false) e ∙ get_or-set_same marks t false false h in (λ m. absurd (subst T q m), λ m. absurd (m.1 e)))
    (λ d. let q = get_or-set_other marks t k false false d in (λ m. (subst T q m, d), λ m. subst T (sym q) m.0))

-- the row up to column v is written and its marks are taken away
pub record RowTo (u n : ℕ) (found₀ : List Bool) (b₀ : Sheet) (v : ℕ) (found : List Bool) (b : Sheet) : Type 0 where
  pub begun : u < v
  pub within : v ≤ n
  pub few : b.count + u < b₀.count + v
  pub premises : RecordsPut (premise_records (keep (marked found₀) (row_pairs v u))) b₀ b
  pub cleared : RowCleared v u found₀ found

module _ (u n : ℕ) (found₀ : List Bool) (b₀ : Sheet) (small : n ≤ 511) where
  -- nothing yet
  pub row_none : u < n → RowTo u n found₀ b₀ (u + 1) found₀ b₀
  row_none h =
      let none : keep (marked found₀) (row_pairs (u + 1) u) ≡ [] = ap (keep (marked found₀)) (row_empty u) ∙ keep_empty (marked found₀) in
      record {
        begun = omega arith;
        within = omega arith;
        few = omega arith;
        premises = subst (λ (ps : List Pair). RecordsPut (premise_records ps) b₀ b₀) (sym none) (records_none b₀);
        cleared = record { sized = refl; left_over = λ p w. (λ m. (m, same_or_not p.left u (λ e. inr (omega (arith, e, w.0))) (λ d. inl d)), λ m. m.0) };
      }

  module _ (v : ℕ) (found : List Bool) (b : Sheet) (h : v < n) (x : RowTo u n found₀ b₀ v found b) where
    -- the pair at column v is marked now where it was at first
    row_same : marked found (pair u v) ≡ marked found₀ (pair u v)
    row_same =
        let y = x.cleared.left_over (pair u v) (x.begun, omega arith) in
        same_test (marked found (pair u v)) (marked found₀ (pair u v)) (λ m. (y.0 m).0) (λ m. y.1 (m, inr (omega arith)))

    -- a column without a mark
    pub row_skip : marked found (pair u v) ≡ false → RowTo u n found₀ b₀ (v + 1) found b
    row_skip e =
        record {
          begun = omega (arith, x.begun);
          within = omega arith;
          few = omega (arith, x.few);
          premises = subst (λ (ps : List Pair). RecordsPut (premise_records ps) b₀ b) (sym (row_without found₀ u v x.begun (sym row_same ∙ e))) x.premises;
          cleared = record { sized = x.cleared.sized; left_over = λ p w. let y = x.cleared.left_over p w in (λ m. ((y.0 m).0, ⊎_elim inl (λ l. same_or_not p.left u (λ e'. same_or_not p.right v (λ e''. absurd (unmarked p e' e'' m)) (λ d. inr (omega (arith, l, d)))) (λ d. inl d)) (y.0 m).1), λ m. y.1 (m.0, ⊎_elim inl (λ l. inr (omega (arith, l))) m.1)) };
        }
      where
        unmarked : (p : Pair) → p.left ≡ u → p.right ≡ v → PairMarked found p → ⊥
        unmarked p e' e'' m = subst T (ap₂ (λ (a b : ℕ). marked found (pair a b)) e' e'' ∙ e) m

    -- a column with a mark: its record is written, and the mark taken away
    pub row_take : 511 * n ≤ length found₀ → marked found (pair u v) ≡ true → (b' : Sheet) → RecordsPut (clause_record 1 (pair u v) ∷ []) b b' → RowTo u n found₀ b₀ (v + 1) (set found (511 * u + v) false) b'
    row_take fits e b' one =
        record {
          begun = omega (arith, x.begun);
          within = omega arith;
          few = omega (arith, x.few, one.count);
          premises = subst (λ (ps : List Pair). RecordsPut (premise_records ps) b₀ b') (sym (row_with found₀ u v x.begun (sym row_same ∙ e))) (premises_append (keep (marked found₀) (row_pairs v u)) (pair u v ∷ []) b₀ b b' x.premises one);
          cleared = record { sized = length-set found (511 * u + v) false ∙ x.cleared.sized; left_over = λ p w. let y = x.cleared.left_over p w in let f = marked_fewer found (511 * u + v) (place_of p) (omega (arith, x.begun, x.cleared.sized)) in (λ m. ((y.0 (f.0 m).0).0, ⊎_elim inl (λ l. same_or_not p.left u (λ e'. inr (beyond p e' l (f.0 m).1)) (λ d. inl d)) (y.0 (f.0 m).0).1), λ m. f.1 (y.1 (m.0, ⊎_elim inl (λ l. inr (omega (arith, l))) m.1), λ z. ⊎_elim (λ d. d (ap (λ (a : Pair). a.left) (place_one p w z))) (λ l. omega (arith, l, ap (λ (a : Pair). a.right) (place_one p w z))) m.1)) };
        }
      where
        beyond : (p : Pair) → p.left ≡ u → v ≤ p.right → (place_of p ≡ 511 * u + v → ⊥) → v + 1 ≤ p.right
        beyond p e' l d = same_or_not p.right v (λ e''. absurd (d (ap₂ (λ (a b : ℕ). 511 * a + b) e' e''))) (λ d'. omega (arith, l, d'))

        place_one : (p : Pair) → PairWithin 511 p → place_of p ≡ place_of (pair u v) → p ≡ pair u v
        place_one p w z = one_place p (pair u v) (within_square p w) (omega (arith, x.begun), omega arith) z

-- the rows before u are written and their marks are taken away
pub record RowsTo (n : ℕ) (found₀ : List Bool) (b₀ : Sheet) (u : ℕ) (found : List Bool) (b : Sheet) : Type 0 where
  pub within : u ≤ n
  pub few : b.count ≤ b₀.count + 511 * u
  pub premises : RecordsPut (premise_records (rows_before n found₀ u)) b₀ b
  pub sized : length found ≡ length found₀
  pub left_over : (p : Pair) → PairWithin 511 p → PairMarked found p ↔ (PairMarked found₀ p × ((u ≤ p.left) ⊎ (n ≤ p.right)))

module _ (n : ℕ) (found₀ : List Bool) (b₀ : Sheet) (small : n ≤ 511) where
  -- no row yet
  pub rows_none : RowsTo n found₀ b₀ 0 found₀ b₀
  rows_none =
      record {
        within = omega arith;
        few = omega arith;
        premises = subst (λ (ps : List Pair). RecordsPut (premise_records ps) b₀ b₀) (sym (rows_first n found₀)) (records_none b₀);
        sized = refl;
        left_over = λ p w. (λ m. (m, inl (omega arith)), λ m. m.0);
      }

  module _ (u : ℕ) (found : List Bool) (b : Sheet) (h : u < n) (x : RowsTo n found₀ b₀ u found b) where
    -- a row is marked now where it was at first
    rows_same : keep (marked found) (row_pairs n u) ≡ keep (marked found₀) (row_pairs n u)
    rows_same = keep_agree (marked found) (marked found₀) (row_pairs n u) (λ p m. let w = row_within p m in let y = x.left_over p w in same_test (marked found p) (marked found₀ p) (λ z. (y.0 z).0) (λ z. y.1 (z, inl (omega (arith, row_left p m)))))
      where
        row_within : (p : Pair) → Memᴰ p (row_pairs n u) → PairWithin 511 p
        row_within p m = let q = row_mem n u p m in subst (PairWithin 511) (sym q.3) (q.1, omega (arith, q.2))

        row_left : (p : Pair) → Memᴰ p (row_pairs n u) → p.left ≡ u
        row_left p m = ap (λ (z : Pair). z.left) (row_mem n u p m).3

    -- a row with marks is written
    pub rows_take : (found' : List Bool) (b' : Sheet) → RowOut n u found b found' b' → RowsTo n found₀ b₀ (u + 1) found' b'
    rows_take found' b' y =
        record {
          within = omega arith;
          few = omega (arith, x.few, y.few);
          premises = subst (λ (ps : List Pair). RecordsPut (premise_records ps) b₀ b') (sym (rows_with n found₀ u ∙ ap (λ (l : List Pair). rows_before n found₀ u ++ l) (sym rows_same))) (premises_append (rows_before n found₀ u) (keep (marked found) (row_pairs n u)) b₀ b b' x.premises y.premises);
          sized = y.cleared.sized ∙ x.sized;
          left_over = λ p w. let a = x.left_over p w in let c = y.cleared.left_over p w in (λ m. let k = c.0 m in let j = a.0 k.0 in (j.0, ⊎_elim (λ d. ⊎_elim (λ l. inl (omega (arith, l, d))) inr j.1) inr k.1), λ m. c.1 (a.1 (m.0, ⊎_elim (λ l. inl (omega (arith, l))) inr m.1), ⊎_elim (λ l. inl (λ e. omega (arith, l, e))) inr m.1));
        }

    -- a row without marks is passed over
    pub rows_skip : (rows : List Bool) → Covered found₀ rows → get_or rows u false ≡ false → RowsTo n found₀ b₀ (u + 1) found b
    rows_skip rows cover e =
        record {
          within = omega arith;
          few = omega (arith, x.few);
          premises = subst (λ (ps : List Pair). RecordsPut (premise_records ps) b₀ b) (sym (rows_without n found₀ u small rows cover e)) x.premises;
          sized = x.sized;
          left_over = λ p w. let a = x.left_over p w in (λ m. let k = a.0 m in (k.0, ⊎_elim (λ l. same_or_not p.left u (λ e'. absurd (subst T (ap (λ (z : ℕ). get_or rows z false) e' ∙ e) (cover p w k.0))) (λ d. inl (omega (arith, l, d)))) inr k.1), λ m. a.1 (m.0, ⊎_elim (λ l. inl (omega (arith, l))) inr m.1));
        }

  -- all rows
  pub rows_all : (u : ℕ) (found : List Bool) (b : Sheet) → n ≤ u → RowsTo n found₀ b₀ u found b → AllOut n found₀ b₀ found b
  rows_all u found b h x =
      let e : u ≡ n = omega (arith, x.within) in
      record {
        few = omega (arith, x.few, x.within);
        premises = subst (λ (ps : List Pair). RecordsPut (premise_records ps) b₀ b) (sym (rows_whole n found₀ u e)) x.premises;
        sized = x.sized;
        left_over = λ p w. let a = x.left_over p w in (λ m. let k = a.0 m in (k.0, ⊎_elim (λ l. omega (arith, l, e, w.0)) (λ l. l) k.1), λ m. a.1 (m.0, inr m.1));
      }

-- a step keeps the buffer that the loop was lent, and what it leaves stands under the names after it
pub stepped : (P : List Bool → Sheet → Type 0) (w₀ w : Records) {w' w'' : Records} {found found' : List Bool} → found' ≡ found → w'' ≡ w' → Lent w₀ w → Lent w w' → P found (sheet_of w') → Lent w₀ w'' × P found' (sheet_of w'')
stepped P w₀ w {w'} {found' = found'} f e l m x =
    subst (λ (y : Records). Lent w₀ y × P found' (sheet_of y)) (sym e) (m ∙ l, subst (λ (y : List Bool). P y (sheet_of w')) (sym f) x)

-- ---- all records where they fit

-- a record behind what is written already
put_behind : (at : ℕ) (ws r tail : List ℕ) → length ws ≡ 8 * at → length r ≡ 8 → 8 ≤ length tail → put_record at r (ws ++ tail) ≡ (ws ++ r) ++ drop 8 tail
put_behind at ws r tail w e h =
    let end : 8 * at + 8 ≡ length ws + 8 = omega (arith, w) in
    put_fits at r (ws ++ tail) (omega (arith, length-append ws tail, w)) ∙
    ap₂ (λ (x y : List ℕ). x ++ r ++ y) (take_at ws tail (8 * at) w) (ap (λ (k : ℕ). drop k (ws ++ tail)) end ∙ drop-append-add ws tail 8)

-- several records behind it
puts_behind : (at : ℕ) (rs : List (List ℕ)) (ws tail : List ℕ) → length ws ≡ 8 * at → ((r : List ℕ) → Memᴰ r rs → length r ≡ 8) → 8 * length rs ≤ length tail → put_records at rs (ws ++ tail) ≡ ws ++ (flat_map (λ r. r) rs ++ drop (8 * length rs) tail)
unfolding put_records flat_map
puts_behind at [] ws tail w e h = refl
puts_behind at (r ∷ rs) ws tail w e h =
    let one = e r (Memᴰ.head refl) in
    let end : 8 + 8 * length rs ≡ 8 * length (r ∷ rs) = omega arith in
    ap (put_records (at + 1) rs) (put_behind at ws r tail w one (omega (arith, h))) ∙
    puts_behind (at + 1) rs (ws ++ r) (drop 8 tail) (omega (arith, w, one, length-append ws r)) (λ x m. e x (Memᴰ.tail m)) (omega (arith, h, length-drop 8 tail)) ∙
    append_assoc ws r (flat_map (λ r. r) rs ++ drop (8 * length rs) (drop 8 tail)) ∙
    ap (λ (l : List ℕ). ws ++ l) (sym (append_assoc r (flat_map (λ r. r) rs) (drop (8 * length rs) (drop 8 tail))) ∙ ap (λ (l : List ℕ). (r ++ flat_map (λ r. r) rs) ++ l) (drop-drop (8 * length rs) 8 tail ∙ ap (λ (k : ℕ). drop k tail) end))

-- records from the start of a buffer that is long enough: their bytes, and the rest as it was
pub puts_fit : (rs : List (List ℕ)) (out : List ℕ) → ((r : List ℕ) → Memᴰ r rs → length r ≡ 8) → 8 * length rs ≤ length out → put_records 0 rs out ≡ flat_map (λ r. r) rs ++ drop (8 * length rs) out
puts_fit rs out e h = puts_behind 0 rs [] out refl e h

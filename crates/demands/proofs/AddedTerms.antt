-- The records of the added terms: what is written is a term record of document 01 that describes the term.
use mathlib.Core.List.Memᴰ
use mathlib.Core.List.{List, [], ◌∷◌, ◌++◌, map, flat_map, append-nil, map-map, map-id, map-append, Memᴰ}
use mathlib.Core.Path.{◌≡◌, refl, sym, ap, ap₂, subst, ◌∙◌}
use Prim.Native.Nat.{ℕ, zero, suc, ◌+◌, ◌-◌, ◌*◌, ◌%◌, ◌≤◌, ◌<◌}
use native.Mathlib.Omega.{arith}
use lib.ListN.{length, get_or, take, length-append, length-map, get_or-eq_default, get_or-map}
use Rattle.tables.specs.Words.{below}
use Rattle.tables.specs.Rows.{LayoutFault, arity_over_four, byte_three, last_bytes, argument_not_lower, unused_field_not_zero}
use Rattle.tables.specs.Bytes.{byte_at, record_at, word_bytes, AllBytes}
use Rattle.tables.specs.Terms.{Term, no_term, term_at}
use Rattle.tables.specs.TermTable.{term_record, symbol_field, arity_field, argument_field, row_of, term_count, term_of, terms_of}
use Rattle.tables.proofs.Words.{get_d_mem, below_mem}
use Rattle.tables.proofs.Terms.{map_agree}
use Rattle.tables.proofs.WordBytes.{word_value, bytes_none, bytes_cons, bytes_append, bytes_flat_map, word_bytes_bytes, record_read, records_read, records_length, record_behind, records_behind}
use Rattle.demands.specs.Buffers.{term_bytes}

-- a term whose record has room for it: at most four arguments, and numbers that fit two bytes
pub record TermFits (m : Term) : Type 0 where
  pub few : length m.arguments ≤ 4
  pub symbol_fits : m.symbol < 65536
  pub arguments_fit : (a : ℕ) → Memᴰ a m.arguments → a < 65536

-- the argument in field j, 0 past the arity
abbrev pub argument_at : Term → ℕ → ℕ
argument_at m j = get_or m.arguments j 0

-- "Argument fields past the arity are zero": the four fields
four_fields : (xs : List ℕ) → take 4 (xs ++ (0 ∷ 0 ∷ 0 ∷ 0 ∷ [])) ≡ get_or xs 0 0 ∷ get_or xs 1 0 ∷ get_or xs 2 0 ∷ get_or xs 3 0 ∷ []
four_fields [] = refl
four_fields (a ∷ []) = refl
four_fields (a ∷ b ∷ []) = refl
four_fields (a ∷ b ∷ c ∷ []) = refl
four_fields (a ∷ b ∷ c ∷ d ∷ xs) = refl

-- a list of at most four is so many of its four fields
used_fields : (xs : List ℕ) → length xs ≤ 4 → take (length xs) (get_or xs 0 0 ∷ get_or xs 1 0 ∷ get_or xs 2 0 ∷ get_or xs 3 0 ∷ []) ≡ xs
used_fields [] h = refl
used_fields (a ∷ []) h = refl
used_fields (a ∷ b ∷ []) h = refl
used_fields (a ∷ b ∷ c ∷ []) h = refl
used_fields (a ∷ b ∷ c ∷ d ∷ []) h = refl
used_fields (a ∷ b ∷ c ∷ d ∷ e ∷ xs) h = absurd (omega arith)

-- the sixteen bytes by the fields
unfoldable pub laid : ℕ → ℕ → ℕ → ℕ → ℕ → ℕ → List ℕ
unfolding flat_map
laid f n a b c d = word_bytes f ++ (n ∷ 0 ∷ []) ++ flat_map word_bytes (a ∷ b ∷ c ∷ d ∷ []) ++ (0 ∷ 0 ∷ 0 ∷ 0 ∷ [])

-- what is written for a term is so laid out
pub term_bytes_laid : (m : Term) → term_bytes m ≡ laid m.symbol (length m.arguments) (argument_at m 0) (argument_at m 1) (argument_at m 2) (argument_at m 3)
unfolding term_bytes laid
term_bytes_laid m = ap (λ (xs : List ℕ). word_bytes m.symbol ++ (length m.arguments ∷ 0 ∷ []) ++ flat_map word_bytes xs ++ (0 ∷ 0 ∷ 0 ∷ 0 ∷ [])) (four_fields m.arguments)

-- "Term record, 16 bytes"
pub term_bytes_length : (m : Term) → length (term_bytes m) ≡ 16
unfolding laid
term_bytes_length m = ap length (term_bytes_laid m)

-- the arity is in its field
pub term_bytes_arity : (m : Term) → arity_field (term_bytes m) ≡ length m.arguments
unfolding laid
term_bytes_arity m = ap arity_field (term_bytes_laid m)

-- the symbol is in its field
pub term_bytes_symbol : (m : Term) → m.symbol < 65536 → symbol_field (term_bytes m) ≡ m.symbol
unfolding laid
term_bytes_symbol m h = ap symbol_field (term_bytes_laid m) ∙ word_value m.symbol h

-- what stands in a field fits, where every argument does
field_fits : (xs : List ℕ) (j : ℕ) → ((a : ℕ) → Memᴰ a xs → a < 65536) → get_or xs j 0 < 65536
field_fits [] j h = omega arith
field_fits (x ∷ xs) zero h = h x (Memᴰ.head refl)
field_fits (x ∷ xs) (suc j) h = field_fits xs j (λ a m. h a (Memᴰ.tail m))

-- each argument is in its field, and 0 in those past the arity
pub term_bytes_argument : (m : Term) → ((a : ℕ) → Memᴰ a m.arguments → a < 65536) → (j : ℕ) → j < 4 → argument_field (term_bytes m) j ≡ argument_at m j
unfolding laid
term_bytes_argument m h j k = ap (λ (r : List ℕ). argument_field r j) (term_bytes_laid m) ∙ go j k
  where
    go : (j : ℕ) → j < 4 → argument_field (laid m.symbol (length m.arguments) (argument_at m 0) (argument_at m 1) (argument_at m 2) (argument_at m 3)) j ≡ argument_at m j
    go zero k = word_value (argument_at m 0) (field_fits m.arguments 0 h)
    go (suc zero) k = word_value (argument_at m 1) (field_fits m.arguments 1 h)
    go (suc (suc zero)) k = word_value (argument_at m 2) (field_fits m.arguments 2 h)
    go (suc (suc (suc zero))) k = word_value (argument_at m 3) (field_fits m.arguments 3 h)
    go (suc (suc (suc (suc j)))) k = absurd (omega arith)

-- the record describes the term
pub term_bytes_term_of : (m : Term) → TermFits m → term_of (term_bytes m) ≡ m
unfolding term_of row_of below
term_bytes_term_of m w = λ i. record { symbol = term_bytes_symbol m w.symbol_fits i; arguments = described i }
  where
    fields : map (argument_field (term_bytes m)) (0 ∷ 1 ∷ 2 ∷ 3 ∷ []) ≡ map (argument_at m) (0 ∷ 1 ∷ 2 ∷ 3 ∷ [])
    fields = map_agree (argument_field (term_bytes m)) (argument_at m) (0 ∷ 1 ∷ 2 ∷ 3 ∷ []) (λ j k. term_bytes_argument m w.arguments_fit j (below_mem 4 k))

    described : take (arity_field (term_bytes m)) (map (argument_field (term_bytes m)) (0 ∷ 1 ∷ 2 ∷ 3 ∷ [])) ≡ m.arguments
    described = ap₂ take (term_bytes_arity m) fields ∙ used_fields m.arguments w.few

-- ---- the record breaks no layout

-- "3 zero", "12-15 zero"
term_bytes_third : (m : Term) → byte_at (term_bytes m) 3 ≡ 0
unfolding laid
term_bytes_third m = ap (λ (r : List ℕ). byte_at r 3) (term_bytes_laid m)

term_bytes_last : (m : Term) (i : ℕ) → i < 4 → byte_at (term_bytes m) (12 + i) ≡ 0
unfolding laid
term_bytes_last m i h = ap (λ (r : List ℕ). byte_at r (12 + i)) (term_bytes_laid m) ∙ go i h
  where
    go : (i : ℕ) → i < 4 → byte_at (laid m.symbol (length m.arguments) (argument_at m 0) (argument_at m 1) (argument_at m 2) (argument_at m 3)) (12 + i) ≡ 0
    go zero k = refl
    go (suc zero) k = refl
    go (suc (suc zero)) k = refl
    go (suc (suc (suc zero))) k = refl
    go (suc (suc (suc (suc i)))) k = absurd (omega arith)

-- the record of a written term has no fault at a place above its arguments
pub term_bytes_layout : (k : ℕ) (m : Term) → TermFits m → ((a : ℕ) → Memᴰ a m.arguments → a < k) → LayoutFault k (term_bytes m) → ⊥
term_bytes_layout k m w low (arity_over_four l) = omega (arith, term_bytes_arity m, w.few)
term_bytes_layout k m w low (byte_three f) = f (term_bytes_third m)
term_bytes_layout k m w low (last_bytes i a b f) =
    let e : 12 + (i - 12) ≡ i = omega arith in
    f (subst (λ (x : ℕ). byte_at (term_bytes m) x ≡ 0) e (term_bytes_last m (i - 12) (omega arith)))
term_bytes_layout k m w low (argument_not_lower j h a b) =
    let inside : j < length m.arguments = omega (arith, term_bytes_arity m) in
    omega (arith, term_bytes_argument m w.arguments_fit j h, low (argument_at m j) (get_d_mem m.arguments j 0 inside))
term_bytes_layout k m w low (unused_field_not_zero j h a f) =
    let past : length m.arguments ≤ j = omega (arith, term_bytes_arity m) in
    f (term_bytes_argument m w.arguments_fit j h ∙ get_or-eq_default m.arguments 0 past)

-- every byte of the record is a byte
pub term_bytes_bytes : (m : Term) → length m.arguments ≤ 4 → AllBytes (term_bytes m)
unfolding term_bytes
term_bytes_bytes m h =
    let zero-byte : 0 < 256 = omega arith in
    let fields = flat_map word_bytes (take 4 (m.arguments ++ (0 ∷ 0 ∷ 0 ∷ 0 ∷ []))) in
    bytes_append (word_bytes m.symbol ++ (length m.arguments ∷ 0 ∷ []) ++ fields) (0 ∷ 0 ∷ 0 ∷ 0 ∷ [])
    (bytes_append (word_bytes m.symbol ++ (length m.arguments ∷ 0 ∷ [])) fields
    (bytes_append (word_bytes m.symbol) (length m.arguments ∷ 0 ∷ []) (word_bytes_bytes m.symbol) (bytes_cons (length m.arguments) (0 ∷ []) (omega arith) (bytes_cons 0 [] zero-byte bytes_none)))
    (bytes_flat_map word_bytes (take 4 (m.arguments ++ (0 ∷ 0 ∷ 0 ∷ 0 ∷ []))) (λ a k. word_bytes_bytes a)))
    (bytes_cons 0 (0 ∷ 0 ∷ 0 ∷ []) zero-byte (bytes_cons 0 (0 ∷ 0 ∷ []) zero-byte (bytes_cons 0 (0 ∷ []) zero-byte (bytes_cons 0 [] zero-byte bytes_none))))

-- ---- all of them

-- the bytes of the added terms, as they are written
abbrev pub added_bytes : List Term → List ℕ
added_bytes ms = flat_map (λ r. r) (map term_bytes ms)

-- each of their records has 16 bytes
added_sixteen : (ms : List Term) (r : List ℕ) → Memᴰ r (map term_bytes ms) → length r ≡ 16
added_sixteen ms r m = let q = Memᴰ.of_map term_bytes ms m in ap length (sym q.2) ∙ term_bytes_length q.0

-- "16 bytes each"
pub added_bytes_length : (ms : List Term) → length (added_bytes ms) ≡ 16 * length ms
added_bytes_length ms = records_length 16 (λ r. r) (map term_bytes ms) (added_sixteen ms) ∙ ap (λ (k : ℕ). 16 * k) (length-map ms term_bytes)

-- the written terms, whatever follows them, are read back
pub added_read : (ms : List Term) (rest : List ℕ) → ((m : Term) → Memᴰ m ms → TermFits m) → map (λ k. term_of (term_record (added_bytes ms ++ rest) k)) (below (length ms)) ≡ ms
added_read ms rest w =
    sym (map-map term_of (record_at 16 (added_bytes ms ++ rest)) (below (length ms))) ∙
    ap (map term_of) (ap (λ (n : ℕ). map (record_at 16 (added_bytes ms ++ rest)) (below n)) (sym (length-map ms term_bytes)) ∙ records_read 16 (map term_bytes ms) rest (added_sixteen ms)) ∙
    map-map term_of term_bytes ms ∙
    map_agree (λ m. term_of (term_bytes m)) (λ m. m) ms (λ m k. term_bytes_term_of m (w m k)) ∙
    map-id ms

-- the given table with the written terms behind it is read as the given terms and then the added ones
pub table_read : (bs : List ℕ) (ms : List Term) → length bs % 16 ≡ 0 → ((m : Term) → Memᴰ m ms → TermFits m) → terms_of (bs ++ added_bytes ms) ≡ terms_of bs ++ ms
unfolding terms_of
table_read bs ms h w =
    sym (map-map term_of (record_at 16 (bs ++ added_bytes ms)) (below (term_count (bs ++ added_bytes ms)))) ∙
    ap (map term_of) (ap (λ (k : ℕ). map (record_at 16 (bs ++ added_bytes ms)) (below k)) count ∙ records_behind 16 n bs (added_bytes ms) whole (length ms)) ∙
    map-append term_of (map (record_at 16 bs) (below n)) (map (record_at 16 (added_bytes ms)) (below (length ms))) ∙
    ap₂ (λ (us vs : List Term). us ++ vs) (map-map term_of (record_at 16 bs) (below n))
    (map-map term_of (record_at 16 (added_bytes ms)) (below (length ms)) ∙
    ap (λ (bytes : List ℕ). map (λ k. term_of (term_record bytes k)) (below (length ms))) (sym (append-nil (added_bytes ms))) ∙
    added_read ms [] w)
  where
    n : ℕ
    n = term_count bs

    whole : length bs ≡ 16 * n
    whole = omega arith

    count : term_count (bs ++ added_bytes ms) ≡ n + length ms
    count = omega (arith, length-append bs (added_bytes ms), added_bytes_length ms)

-- and no record of an added term breaks the layout there, where its arguments are lower than its number
pub added_layout : (bs : List ℕ) (ms : List Term) → length bs % 16 ≡ 0 → (i : ℕ) → i < length ms → TermFits (term_at ms i) → ((a : ℕ) → Memᴰ a (term_at ms i).arguments → a < term_count bs + i) → LayoutFault (term_count bs + i) (term_record (bs ++ added_bytes ms) (term_count bs + i)) → ⊥
added_layout bs ms h i k w low f = term_bytes_layout (term_count bs + i) (term_at ms i) w low (subst (LayoutFault (term_count bs + i)) place f)
  where
    whole : length bs ≡ 16 * term_count bs
    whole = omega arith

    place : term_record (bs ++ added_bytes ms) (term_count bs + i) ≡ term_bytes (term_at ms i)
    place =
        record_behind 16 (term_count bs) bs (added_bytes ms) i whole ∙
        ap (λ (bytes : List ℕ). record_at 16 bytes i) (sym (append-nil (added_bytes ms))) ∙
        record_read 16 (map term_bytes ms) [] (added_sixteen ms) i (rw length-map k) (term_bytes no_term) ∙
        get_or-map term_bytes ms i no_term

-- Laws of bytes: a number written as two bytes is read back, and so are records written one behind the other.
use mathlib.Core.List.Memᴰ
use mathlib.Core.List.{List, [], ◌∷◌, ◌++◌, map, flat_map, append_assoc, append-nil, map-map, map-append, Memᴰ}
use mathlib.Core.Logic.{⊎_elim}
use mathlib.Core.Path.{◌≡◌, refl, sym, ap, ap₂, subst, ◌∙◌}
use Prim.Native.Nat.{ℕ, zero, suc, ◌+◌, ◌*◌, ◌/◌, ◌%◌, ◌≤◌, ◌<◌}
use native.Mathlib.Nat.{not-suc-le-zero, add-zero, add-suc, add_comm, mul-zero, mul-suc, mul-add, mul-le-mul_left}
use native.Mathlib.Omega.{arith}
use lib.ListN.{length, get_or, take, drop, length-append, length-drop, get_or-eq_default}
use lib.Seq.{take_at, take-append-le, drop-append-le, drop-append-add}
use Rattle.tables.specs.Words.{below}
use Rattle.tables.specs.Bytes.{AllBytes, byte_at, word_at, record_at, word_bytes}
use Rattle.tables.proofs.Words.{flat_map_mem, get_d_mem, mem_get_d, below_mem, below_or_not}
use Rattle.tables.proofs.Terms.{map_agree}

-- a number below 65536 is what its two bytes say
pub word_value : (n : ℕ) → n < 65536 → n % 256 + 256 * (n / 256 % 256) ≡ n
word_value n h = omega arith

-- the two bytes of a number below 65536, whatever follows them, are read as the number
pub word_read : (n : ℕ) (rest : List ℕ) → n < 65536 → word_at (word_bytes n ++ rest) 0 ≡ n
word_read n rest h = word_value n h

-- a list of bytes holds a byte at each place, and 0 behind them
pub byte_small : (bs : List ℕ) → AllBytes bs → (i : ℕ) → byte_at bs i < 256
byte_small bs all i = ⊎_elim (λ l. all (byte_at bs i) (get_d_mem bs i 0 l)) (λ l. omega (arith, get_or-eq_default bs 0 l)) (below_or_not i (length bs))

-- and where each place holds a byte it is one
pub small_bytes : (bs : List ℕ) → ((i : ℕ) → byte_at bs i < 256) → AllBytes bs
small_bytes bs f b m = let r = mem_get_d 0 m in subst (λ (x : ℕ). x < 256) r.2 (f r.0)

-- so it is of no bytes,
pub bytes_none : AllBytes []
bytes_none b m = absurd (Memᴰ.not-nil m)

-- of one byte more in front,
pub bytes_cons : (a : ℕ) (bs : List ℕ) → a < 256 → AllBytes bs → AllBytes (a ∷ bs)
bytes_cons a bs h k b m = ⊎_elim (λ e. subst (λ (x : ℕ). x < 256) (sym e) h) (k b) (Memᴰ.cases_cons m)

-- of bytes behind bytes,
pub bytes_append : (as' bs : List ℕ) → AllBytes as' → AllBytes bs → AllBytes (as' ++ bs)
bytes_append as' bs h k b m = ⊎_elim (h b) (k b) (Memᴰ.append_cases as' m)

-- and of the bytes of each member of a list
pub bytes_flat_map {ℓ} : {A : Type ℓ} (f : A → List ℕ) (xs : List A) → ((x : A) → Memᴰ x xs → AllBytes (f x)) → AllBytes (flat_map f xs)
bytes_flat_map f xs h b m = let r = flat_map_mem f xs m in h r.0 r.1 b r.2

-- the two bytes of a number are bytes
pub word_bytes_bytes : (n : ℕ) → AllBytes (word_bytes n)
word_bytes_bytes n = bytes_cons (n % 256) (n / 256 % 256 ∷ []) (omega arith) (bytes_cons (n / 256 % 256) [] (omega arith) bytes_none)

-- the numbers below n + 1 are 0 and, each one higher, the numbers below n
pub below_front : (n : ℕ) → below (suc n) ≡ 0 ∷ map suc (below n)
unfolding below
below_front zero = refl
below_front (suc n) = ap (λ (ks : List ℕ). ks ++ (suc n ∷ [])) (below_front n) ∙ ap (λ (ks : List ℕ). 0 ∷ ks) (sym (map-append suc (below n) (n ∷ [])))

-- the first record
pub record_first : (size : ℕ) (r more : List ℕ) → length r ≡ size → record_at size (r ++ more) 0 ≡ r
record_first size r more h = rw mul-zero (take_at r more size h)

-- the records behind the first
pub record_next : (size : ℕ) (r more : List ℕ) (k : ℕ) → length r ≡ size → record_at size (r ++ more) (suc k) ≡ record_at size more k
record_next size r more k h = ap (take size) (ap (λ (d : ℕ). drop d (r ++ more)) place ∙ drop-append-add r more (size * k))
  where
    place : size * suc k ≡ length r + size * k
    place = mul-suc size k ∙ add_comm (size * k) size ∙ ap (λ (d : ℕ). d + size * k) (sym h)

-- of records of one size, one behind the other and whatever follows them, each stands at its place
pub record_read : (size : ℕ) (rs : List (List ℕ)) (rest : List ℕ) → ((r : List ℕ) → Memᴰ r rs → length r ≡ size) → (k : ℕ) → k < length rs → (d : List ℕ) → record_at size (flat_map (λ r. r) rs ++ rest) k ≡ get_or rs k d
unfolding flat_map
record_read size [] rest h k l d = absurd (not-suc-le-zero l)
record_read size (r ∷ rs) rest h zero l d = ap (λ (bytes : List ℕ). record_at size bytes 0) (append_assoc r (flat_map (λ (q : List ℕ). q) rs) rest) ∙ record_first size r (flat_map (λ (q : List ℕ). q) rs ++ rest) (h r (Memᴰ.head refl))
record_read size (r ∷ rs) rest h (suc k) l d =
    ap (λ (bytes : List ℕ). record_at size bytes (suc k)) (append_assoc r (flat_map (λ (q : List ℕ). q) rs) rest) ∙
    record_next size r (flat_map (λ (q : List ℕ). q) rs ++ rest) k (h r (Memᴰ.head refl)) ∙
    record_read size rs rest (λ q m. h q (Memᴰ.tail m)) k (omega arith) d

-- a list is its members at their places
pub get_d_below {ℓ} : {A : Type ℓ} (d : A) (xs : List A) → map (λ k. get_or xs k d) (below (length xs)) ≡ xs
unfolding below
get_d_below d [] = refl
get_d_below d (x ∷ xs) = ap (map (λ k. get_or (x ∷ xs) k d)) (below_front (length xs)) ∙ ap (λ ys. x ∷ ys) (map-map (λ k. get_or (x ∷ xs) k d) suc (below (length xs)) ∙ get_d_below d xs)

-- so the records at all places are these records
pub records_read : (size : ℕ) (rs : List (List ℕ)) (rest : List ℕ) → ((r : List ℕ) → Memᴰ r rs → length r ≡ size) → map (record_at size (flat_map (λ r. r) rs ++ rest)) (below (length rs)) ≡ rs
records_read size rs rest h =
    map_agree (record_at size (flat_map (λ r. r) rs ++ rest)) (λ k. get_or rs k []) (below (length rs)) (λ k m. record_read size rs rest h k (below_mem (length rs) m) []) ∙ get_d_below [] rs

-- records of one size have so many bytes
pub records_length {ℓ} : {A : Type ℓ} (size : ℕ) (f : A → List ℕ) (xs : List A) → ((x : A) → Memᴰ x xs → length (f x) ≡ size) → length (flat_map f xs) ≡ size * length xs
unfolding flat_map
records_length size f [] h = sym (mul-zero size)
records_length size f (x ∷ xs) h = length-append (f x) (flat_map f xs) ∙ ap₂ (λ (a b : ℕ). a + b) (h x (Memᴰ.head refl)) (records_length size f xs (λ y m. h y (Memᴰ.tail m))) ∙ add_comm size (size * length xs) ∙ sym (mul-suc size (length xs))

-- ---- one table behind another

-- whole records are not changed by what follows them
pub record_before : (size n : ℕ) (bs more : List ℕ) (i : ℕ) → length bs ≡ size * n → i < n → record_at size (bs ++ more) i ≡ record_at size bs i
record_before size n bs more i h k =
    let room : size * suc i ≤ size * n = mul-le-mul_left size k in
    let start : size * i ≤ length bs = omega (arith, mul-suc size i) in
    let whole : size ≤ length (drop (size * i) bs) = rw length-drop (omega (arith, mul-suc size i)) in
    ap (take size) (drop-append-le (size * i) bs more start) ∙ take-append-le size (drop (size * i) bs) more whole

-- and the records behind them are those of what follows
pub record_behind : (size n : ℕ) (bs more : List ℕ) (i : ℕ) → length bs ≡ size * n → record_at size (bs ++ more) (n + i) ≡ record_at size more i
record_behind size n bs more i h =
    ap (take size) (ap (λ (d : ℕ). drop d (bs ++ more)) (mul-add size n i ∙ ap (λ (d : ℕ). d + size * i) (sym h)) ∙ drop-append-add bs more (size * i))

-- the records of a table behind n whole records are those of both, in order
pub records_behind : (size n : ℕ) (bs more : List ℕ) → length bs ≡ size * n → (k : ℕ) → map (record_at size (bs ++ more)) (below (n + k)) ≡ map (record_at size bs) (below n) ++ map (record_at size more) (below k)
unfolding below
records_behind size n bs more h zero =
    ap (λ (j : ℕ). map (record_at size (bs ++ more)) (below j)) (add-zero n) ∙
    map_agree (record_at size (bs ++ more)) (record_at size bs) (below n) (λ i m. record_before size n bs more i h (below_mem n m)) ∙
    sym (append-nil (map (record_at size bs) (below n)))
records_behind size n bs more h (suc k) =
    ap (λ (j : ℕ). map (record_at size (bs ++ more)) (below j)) (add-suc n k) ∙
    map-append (record_at size (bs ++ more)) (below (n + k)) ((n + k) ∷ []) ∙
    ap₂ (λ (rs : List (List ℕ)) (r : List ℕ). rs ++ (r ∷ [])) (records_behind size n bs more h k) (record_behind size n bs more k h) ∙
    append_assoc (map (record_at size bs) (below n)) (map (record_at size more) (below k)) (record_at size more k ∷ []) ∙
    ap (λ (rs : List (List ℕ)). map (record_at size bs) (below n) ++ rs) (sym (map-append (record_at size more) (below k) (k ∷ [])))

-- Laws that the proofs of the code cite: a record as a part of its table, searches from the front, arrays filled from the front.
use Rattle.std.proofs.Common.{Some, None}
use mathlib.Core.Bool.{Bool, true, false, cond, ◌||◌}
use mathlib.Core.List.{List, [], ◌∷◌, ◌++◌, map, map-append, append_assoc}
use mathlib.Core.Logic.{⊎_elim}
use mathlib.Core.Path.{◌≡◌, refl, sym, ap, ap₂, ◌∙◌}
use Prim.Native.Nat.{ℕ, suc, ◌+◌, ◌*◌, ◌-◌, ◌≤◌, ◌<◌, min}
use native.Mathlib.Numerals.{add-one}
use native.Mathlib.Omega.{arith}
use lib.Dec.{T, not_T}
use lib.ListN.{length, get_or, take, drop, set, replicate, length-take, length-drop, length-map}
use lib.Seq.{set_at, ext_get_or}
use Rattle.tables.specs.Words.{below, any, same, first_below, first_of}
use Rattle.tables.specs.Tests.{some_below}
use Rattle.tables.specs.Bytes.{record_at}
use Rattle.tables.specs.Read.{filled}
use Rattle.tables.proofs.Words.{passes, passed, failed, or_cases, or_left, or_right, same_test, same_eq, same_self, length_below, some_some_below, some_below_some, some_below_more, first_below_none, first_of_past, first_is}

-- ---- records

-- the part of a table from s to s + n is n bytes from s on
pub part_is : (bs : List ℕ) (s n : ℕ) → take (s + n - s) (drop s bs) ≡ take n (drop s bs)
part_is bs s n = let e : s + n - s ≡ n = omega arith in ap (λ (m : ℕ). take m (drop s bs)) e

-- a record that lies within its table has its size
pub record_length : (size : ℕ) (bs : List ℕ) (k : ℕ) → size * k + size ≤ length bs → length (record_at size bs k) ≡ size
record_length size bs k h = simp (length-take, length-drop) (omega arith)

-- ---- byte strings

-- one difference and they are not the same
pub differ : (a b : List ℕ) (i : ℕ) → (get_or a i 0 ≡ get_or b i 0 → ⊥) → same a b ≡ false
differ a b i h = failed (same a b) (not_T (same a b) (λ t. h (ap (λ (l : List ℕ). get_or l i 0) (same_eq a b t))))

-- of one length, and with no difference, they are the same
pub agree : (a b : List ℕ) → length a ≡ length b → ((i : ℕ) → i < length a → get_or a i 0 ≡ get_or b i 0) → same a b ≡ true
agree a b e f = ap (same a) (sym (ext_get_or 0 a b e f)) ∙ passed (same a a) (same_self a)

-- ---- searches from the front

module _ (p : ℕ → Bool) (n : ℕ) where
  -- the loops that ask, without an early end, whether some number below n passes: whether one below i did
  abbrev pub SoFar : ℕ → Bool → Type 0
  SoFar i b = (i ≤ n) × (b ≡ some_below p i)

  -- below 0 there is none
  pub so_far : SoFar 0 false
  unfolding below any
  so_far = (omega arith, refl)

  -- one number more
  pub so_far_more : (i : ℕ) (b : Bool) → SoFar i b → i < n → SoFar (i + 1) (b || p i)
  so_far_more i b y h = (omega arith, ap (λ (a : Bool). a || p i) y.1 ∙ sym (ap (some_below p) (add-one i) ∙ some_below_more p i))

  -- all were asked
  pub so_far_all : (i : ℕ) (b : Bool) → SoFar i b → n ≤ i → b ≡ some_below p n
  so_far_all i b y h = let e : i ≡ n = omega arith in y.1 ∙ ap (some_below p) e

  -- the loops that look for the first number below n that passes: none below i did
  abbrev pub NotYet : ℕ → Type 0
  NotYet i = (i ≤ n) × (first_below p i ≡ None)

  -- below 0 there is none
  pub not_yet : NotYet 0
  unfolding below first_of
  not_yet = (omega arith, refl)

  -- the first number that passes
  pub first_found : (i : ℕ) (b : Bool) → NotYet i → i < n → b ≡ p i → b ≡ true → Some i ≡ first_below p n
  first_found i b y h e t = sym ((first_is p (λ j. T (p j)) (λ j. (λ w. w, λ w. w)) n i).1 (record { within = h; such = passes (p i) (sym e ∙ t); none_before = first_below_none p i y.1 }))

  -- a number that fails is passed over
  pub not_more : (i : ℕ) (b : Bool) → NotYet i → i < n → b ≡ p i → b ≡ false → NotYet (i + 1)
  unfolding below first_of
  not_more i b y h e t = (omega arith, ap (first_below p) (add-one i) ∙ first_of_past p (below i) (i ∷ []) y.1 ∙ ap (λ (d : Bool). cond d (Some i) None) (sym e ∙ t))

  -- all were passed over
  pub not_found : (i : ℕ) → NotYet i → n ≤ i → None ≡ first_below p n
  not_found i y h = let e : i ≡ n = omega arith in sym y.1 ∙ ap (first_below p) e

-- some number passes one of two tests where some number passes the one or some number passes the other
pub some_either : (p q : ℕ → Bool) (n : ℕ) → some_below (λ j. p j || q j) n ≡ (some_below p n || some_below q n)
some_either p q n = same_test (some_below (λ j. p j || q j) n) (some_below p n || some_below q n) to from
  where
    to : T (some_below (λ j. p j || q j) n) → T (some_below p n || some_below q n)
    to h =
        let r = some_below_some (λ j. p j || q j) n h in
        ⊎_elim
        (λ w. or_left (some_below p n) (some_below q n) (some_some_below p n r.0 r.1 w))
        (λ w. or_right (some_below p n) (some_below q n) (some_some_below q n r.0 r.1 w))
        (or_cases (p r.0) (q r.0) r.2)

    from : T (some_below p n || some_below q n) → T (some_below (λ j. p j || q j) n)
    from h =
        ⊎_elim
        (λ w. let r = some_below_some p n w in some_some_below (λ j. p j || q j) n r.0 r.1 (or_left (p r.0) (q r.0) r.2))
        (λ w. let r = some_below_some q n w in some_some_below (λ j. p j || q j) n r.0 r.1 (or_right (p r.0) (q r.0) r.2))
        (or_cases (some_below p n) (some_below q n) h)

-- ---- arrays filled from the front

module _ {ℓ} {X : Type ℓ} (size : ℕ) (filler : X) (f : ℕ → X) where
  -- the array once its first i places are written
  abbrev pub written : ℕ → List X
  written i = map f (below i) ++ replicate (size - i) filler

  -- at first it holds the filler alone
  pub written_none : replicate size filler ≡ written 0
  unfolding below
  written_none = let e : size ≡ size - 0 = omega arith in ap (λ (n : ℕ). replicate n filler) e

  -- the next place is written
  pub written_more : (i : ℕ) → i < size → set (written i) i (f i) ≡ written (i + 1)
  unfolding below
  written_more i h =
      let e : size - i ≡ suc (size - (i + 1)) = omega arith in
      ap (λ (n : ℕ). set (map f (below i) ++ replicate n filler) i (f i)) e ∙
      set_at (map f (below i)) filler (replicate (size - (i + 1)) filler) (f i) i (length-map (below i) f ∙ length_below i) ∙
      sym (append_assoc (map f (below i)) (f i ∷ []) (replicate (size - (i + 1)) filler)) ∙
      ap (λ (l : List X). l ++ replicate (size - (i + 1)) filler) (sym (map-append f (below i) (i ∷ []))) ∙
      ap (λ (n : ℕ). map f (below n) ++ replicate (size - (i + 1)) filler) (sym (add-one i))

  -- the loops that fill the array from the front: of the places below n the first i are written
  abbrev pub Filling : ℕ → ℕ → List X → Type ℓ
  Filling n i xs = (i ≤ n) × (xs ≡ written i)

  -- nothing is written yet
  pub filling_none : (n : ℕ) → Filling n 0 (replicate size filler)
  filling_none n = (omega arith, written_none)

  -- one turn
  pub filling_more : (n i : ℕ) (xs : List X) (x : X) → n ≤ size → Filling n i xs → i < n → x ≡ f i → Filling n (i + 1) (set xs i x)
  filling_more n i xs x h w l e =
      (omega arith, ap₂ (λ (ys : List X) (y : X). set ys i y) w.1 e ∙ written_more i (omega arith))

  -- it is filled once as many places are written as there are records, and fit
  pub filling_all : (count n i : ℕ) (xs : List X) → n ≡ min count size → Filling n i xs → n ≤ i → xs ≡ filled size filler count f
  unfolding filled
  filling_all count n i xs e w h =
      let q : i ≡ min count size = omega arith in
      let r : size - i ≡ size - count = omega arith in
      w.1 ∙ ap₂ (λ (a b : ℕ). map f (below a) ++ replicate b filler) q r

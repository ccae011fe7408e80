-- Laws of filled arrays: how long they are, and what stands at a place.
use mathlib.Core.List.{List, [], ◌∷◌, ◌++◌, map, map-append, append-nil}
use mathlib.Core.Logic.{⊎_elim}
use mathlib.Core.Path.{◌≡◌, sym, ap, ap₂, subst, ◌∙◌}
use Prim.Native.Nat.{ℕ, zero, suc, ◌+◌, ◌-◌, ◌≤◌, ◌<◌, min}
use native.Mathlib.Nat.{not-suc-le-zero}
use native.Mathlib.Omega.{arith}
use lib.ListN.{length, get_or, set, replicate, length-append, length-map, length-replicate, get_or-replicate, get_or-append, get_or-eq_default}
use lib.Seq.{get_or_at, get_or-append-add}
use Rattle.tables.specs.Words.{below}
use Rattle.tables.specs.Read.{filled}
use Rattle.tables.proofs.Words.{length_below, below_mem, below_or_is, below_or_not}
use Rattle.tables.proofs.Terms.{map_agree}
use Rattle.tables.proofs.Records.{written_more}

module _ {ℓ} {X : Type ℓ} (f : ℕ → X) where
  -- an entry for each number
  pub length_map_below : (n : ℕ) → length (map f (below n)) ≡ n
  length_map_below n = length-map (below n) f ∙ length_below n

  -- the entry of a number
  pub map_below_at : (n k : ℕ) (d : X) → k < n → get_or (map f (below n)) k d ≡ f k
  unfolding below
  map_below_at zero k d h = absurd (not-suc-le-zero h)
  map_below_at (suc n) k d h =
      ap (λ (l : List X). get_or l k d) (map-append f (below n) (n ∷ [])) ∙
      ⊎_elim
      (λ (l : k < n). get_or-append (map f (below n)) (f n ∷ []) d k (omega (arith, length_map_below n)) ∙ map_below_at n k d l)
      (λ (e : k ≡ n). get_or_at (map f (below n)) (f n) [] d k (length_map_below n ∙ sym e) ∙ ap f (sym e))
      (below_or_is k n h)

  module _ (size : ℕ) (filler : X) (n : ℕ) where
    -- a filled array has its size
    pub length_filled : length (filled size filler n f) ≡ size
    unfolding filled
    length_filled =
        length-append (map f (below (min n size))) (replicate (size - n) filler) ∙
        ap₂ (λ (a b : ℕ). a + b) (length_map_below (min n size)) (length-replicate (size - n) filler) ∙
        omega arith

    -- a place that was filled
    pub filled_at : (k : ℕ) (d : X) → k < n → n ≤ size → get_or (filled size filler n f) k d ≡ f k
    unfolding filled
    filled_at k d h l =
        get_or-append (map f (below (min n size))) (replicate (size - n) filler) d k (omega (arith, length_map_below (min n size))) ∙
        map_below_at (min n size) k d (omega arith)

    -- a place behind
    pub filled_behind : (k : ℕ) (d : X) → n ≤ k → k < size → get_or (filled size filler n f) k d ≡ filler
    unfolding filled
    filled_behind k d h l =
        let e : k ≡ n + (k - n) = omega arith in
        let q : length (map f (below (min n size))) ≡ n = length_map_below (min n size) ∙ omega arith in
        ap (λ (i : ℕ). get_or (map f (below (min n size)) ++ replicate (size - n) filler) i d) (e ∙ ap (λ (m : ℕ). m + (k - n)) (sym q)) ∙
        get_or-append-add (map f (below (min n size))) (replicate (size - n) filler) (k - n) d ∙
        get_or-replicate (size - n) (k - n) filler d (omega arith)

    -- a place behind, or past the array, where the filler is what is read past the end
    pub filled_past : (k : ℕ) → n ≤ k → get_or (filled size filler n f) k filler ≡ filler
    filled_past k h = ⊎_elim (λ (l : k < size). filled_behind k filler h l) (λ (l : size ≤ k). get_or-eq_default (filled size filler n f) filler (subst (λ (m : ℕ). m ≤ k) (sym length_filled) l)) (below_or_not k size)

-- arrays are the same where they are filled by functions that agree below the count
pub filled_agree {ℓ} : {X : Type ℓ} (size : ℕ) (filler : X) (n : ℕ) (f g : ℕ → X) → ((k : ℕ) → k < n → f k ≡ g k) → filled size filler n f ≡ filled size filler n g
unfolding filled
filled_agree {X = X} size filler n f g h =
    ap (λ (l : List X). l ++ replicate (size - n) filler) (map_agree f g (below (min n size)) (λ k m. h k (omega (arith, below_mem (min n size) m))))

-- an array that is filled to its end
pub filled_full {ℓ} : {X : Type ℓ} (size : ℕ) (filler : X) (f : ℕ → X) → filled size filler size f ≡ map f (below size)
unfolding filled
filled_full {X = X} size filler f =
    let whole : min size size ≡ size = omega arith in
    let nothing : size - size ≡ 0 = omega arith in
    ap₂ (λ (n k : ℕ). map f (below n) ++ replicate k filler) whole nothing ∙ append-nil (map f (below size))

-- a filled array with one place more
pub filled_next {ℓ} : {X : Type ℓ} (size : ℕ) (filler : X) (n : ℕ) (f g : ℕ → X) (x : X) → n < size → ((k : ℕ) → k < n → f k ≡ g k) → x ≡ g n → set (filled size filler n f) n x ≡ filled size filler (n + 1) g
unfolding filled
filled_next {X = X} size filler n f g x h same e =
    let fits : min n size ≡ n = omega arith in
    let fits_more : n + 1 ≡ min (n + 1) size = omega arith in
    ap₂ (λ (xs : List X) (y : X). set xs n y) (filled_agree size filler n f g same ∙ ap (λ (k : ℕ). map g (below k) ++ replicate (size - n) filler) fits) e ∙
    written_more size filler g n h ∙
    ap (λ (k : ℕ). map g (below k) ++ replicate (size - (n + 1)) filler) fits_more

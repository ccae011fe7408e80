-- An array that a loop changes in place from the front.
use mathlib.Core.List.{List, [], ◌∷◌, ◌++◌, map, map-append, append_assoc}
use mathlib.Core.Path.{◌≡◌, sym, ap, ap₂, ◌∙◌}
use Prim.Native.Nat.{ℕ, suc, ◌+◌, ◌≤◌, ◌<◌}
use native.Mathlib.Numerals.{add-one}
use native.Mathlib.Omega.{arith}
use lib.ListN.{length, get_or, take, drop, set, length-map, length-take}
use lib.Seq.{take-suc, drop-cons, set_at, get_or_at}

module _ (f : ℕ → ℕ) (xs : List ℕ) where
  -- the array once its first i places are changed
  abbrev pub changed : ℕ → List ℕ
  changed i = map f (take i xs) ++ drop i xs

  -- as many places are changed as were passed
  length_front : (i : ℕ) → i < length xs → length (map f (take i xs)) ≡ i
  length_front i h = length-map (take i xs) f ∙ length-take i xs ∙ omega arith

  -- the next place is unchanged yet
  pub changed_at : (i : ℕ) → i < length xs → get_or (changed i) i 0 ≡ get_or xs i 0
  changed_at i h =
      ap (λ (l : List ℕ). get_or (map f (take i xs) ++ l) i 0) (drop-cons xs i 0 h) ∙
      get_or_at (map f (take i xs)) (get_or xs i 0) (drop (suc i) xs) 0 i (length_front i h)

  -- the next place is changed
  pub changed_more : (i : ℕ) → i < length xs → set (changed i) i (f (get_or xs i 0)) ≡ changed (i + 1)
  changed_more i h =
      ap (λ (l : List ℕ). set (map f (take i xs) ++ l) i (f (get_or xs i 0))) (drop-cons xs i 0 h) ∙
      set_at (map f (take i xs)) (get_or xs i 0) (drop (suc i) xs) (f (get_or xs i 0)) i (length_front i h) ∙
      sym (append_assoc (map f (take i xs)) (f (get_or xs i 0) ∷ []) (drop (suc i) xs)) ∙
      ap (λ (l : List ℕ). l ++ drop (suc i) xs) (sym (map-append f (take i xs) (get_or xs i 0 ∷ []))) ∙
      ap (λ (l : List ℕ). map f l ++ drop (suc i) xs) (sym (take-suc xs i 0 h)) ∙
      ap (λ (n : ℕ). changed n) (sym (add-one i))

  -- the loops that change an array in place from the front
  abbrev pub Changing : ℕ → List ℕ → Type 0
  Changing i ys = (i ≤ length xs) × (ys ≡ changed i)

  -- a turn that writes what the rule says of the place
  pub changing_set : (i : ℕ) (ys : List ℕ) (y : ℕ) → Changing i ys → i < length xs → y ≡ f (get_or ys i 0) → Changing (i + 1) (set ys i y)
  changing_set i ys y w h e = (
    omega arith,
    ap₂ (λ (l : List ℕ) (z : ℕ). set l i z) w.1 (e ∙ ap f (ap (λ (l : List ℕ). get_or l i 0) w.1 ∙ changed_at i h)) ∙ changed_more i h,
  )

-- The words that document 01's sentences use of numbers and lists: some, every, the first, below.
use Rattle.std.specs.Prelude.{Bool, true, false, cond, ◌&&◌, ◌||◌, ℕ, zero, suc, ◌<◌, eqb, ltb, Option, Some, None}
use mathlib.Core.List.{List, [], ◌∷◌, ◌++◌, map, flat_map}

-- the numbers below n, ascending
unfoldable pub below : ℕ → List ℕ
below zero = []
below (suc n) = below n ++ (n ∷ [])

-- some member passes the test
unfoldable pub any {ℓ} : {A : Type ℓ} → (A → Bool) → List A → Bool
any p [] = false
any p (x ∷ xs) = p x || any p xs

-- every member passes the test
unfoldable pub every {ℓ} : {A : Type ℓ} → (A → Bool) → List A → Bool
every p [] = true
every p (x ∷ xs) = p x && every p xs

-- the members that pass the test, in their order
unfoldable pub keep {ℓ} : {A : Type ℓ} → (A → Bool) → List A → List A
keep p [] = []
keep p (x ∷ xs) = cond (p x) (x ∷ keep p xs) (keep p xs)

-- the number stands in the list
unfoldable pub among : ℕ → List ℕ → Bool
among x = any (eqb x)

-- the two lists of numbers are the same
unfoldable pub same : List ℕ → List ℕ → Bool
same [] [] = true
same [] (y ∷ ys) = false
same (x ∷ xs) [] = false
same (x ∷ xs) (y ∷ ys) = eqb x y && same xs ys

-- the first member that passes the test
unfoldable pub first_of : {A : Type 0} → (A → Bool) → List A → Option A
first_of p [] = None
first_of p (x ∷ xs) = cond (p x) (Some x) (first_of p xs)

-- the first number below n that passes the test
abbrev pub first_below : (ℕ → Bool) → ℕ → Option ℕ
first_below p n = first_of p (below n)

-- "first such", as what a reader believes: k is such a number below n, and no lower one is
pub record First (Such : ℕ → Type 0) (n k : ℕ) : Type 0 where
  pub within : k < n
  pub such : Such k
  pub none_before : (j : ℕ) → j < k → Such j → ⊥

-- two term numbers, the lower one left
pub record Pair : Type 0 where
  pub left : ℕ
  pub right : ℕ

abbrev pub pair : ℕ → ℕ → Pair
pair s t = record { left = s; right = t }

abbrev pub same_pair : Pair → Pair → Bool
same_pair p q = eqb p.left q.left && eqb p.right q.right

-- the pairs of numbers below n, "s below t, smallest s, then smallest t"
unfoldable pub pairs_below : ℕ → List Pair
pairs_below n = flat_map (λ s. map (pair s) (keep (ltb s) (below n))) (below n)

-- What stands in an array past the numbers of a list.
use mathlib.Core.List.{List, [], ◌∷◌, ◌++◌}
use mathlib.Core.Path.{◌≡◌, refl}
use Prim.Native.Nat.{ℕ, zero, suc, ◌-◌}
use lib.ListN.{length, get_or, replicate}
use Rattle.running.specs.Shown.{padded}

-- past the numbers of a list stands 0
pub zeros_behind : (xs : List ℕ) (n j : ℕ) → get_or (xs ++ replicate n 0) j 0 ≡ get_or xs j 0
zeros_behind [] zero j = refl
zeros_behind [] (suc n) zero = refl
zeros_behind [] (suc n) (suc j) = zeros_behind [] n j
zeros_behind (x ∷ xs) n zero = refl
zeros_behind (x ∷ xs) n (suc j) = zeros_behind xs n j

-- "Argument fields past the arity are zero"
pub padded_at : (xs : List ℕ) (j : ℕ) → get_or (padded xs) j 0 ≡ get_or xs j 0
unfolding padded
padded_at xs j = zeros_behind xs (4 - length xs) j

-- Terms as document 01 speaks of them once the table is read: a symbol over arguments, which are term numbers.
use mathlib.Core.List.{List, [], ◌∷◌, map, flat_map}
use Rattle.std.specs.Prelude.{ℕ, zero, suc, get_or}

pub record Term : Type 0 where
  pub symbol : ℕ
  pub arguments : List ℕ

-- what stands for a number that is not in the table; no definition below rests on it for tables that pass the checks
abbrev pub no_term : Term
no_term = record { symbol = 0; arguments = [] }

-- the term of a number: given terms come first, added ones after them
abbrev pub term_at : List Term → ℕ → Term
term_at ts t = get_or ts t no_term

-- "all the way down": what f makes of a term and of what was made of its arguments. Arguments are lower, so the descent from term t
-- is at most t + 1 deep: the first number is the depth that is left.
unfoldable pub down_to {ℓ} : {X : Type ℓ} → (ℕ → Term → List X → X) → X → List Term → ℕ → ℕ → X
down_to f x ts zero t = x
down_to f x ts (suc d) t = f t (term_at ts t) (map (down_to f x ts d) (term_at ts t).arguments)

unfoldable pub down {ℓ} : {X : Type ℓ} → (ℕ → Term → List X → X) → X → List Term → ℕ → X
down f x ts t = down_to f x ts (suc t) t

-- the term's own number and, repeatedly, those of its arguments
unfoldable pub parts : List Term → ℕ → List ℕ
parts = down (λ t term below. t ∷ flat_map (λ ps. ps) below) []

-- 01: "A term's symbols are its own symbol and those of its arguments, all the way down."
unfoldable pub symbols : List Term → ℕ → List ℕ
symbols ts t = map (λ u. (term_at ts u).symbol) (parts ts t)

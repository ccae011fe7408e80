-- Small tables, computed. Each theorem is a sentence of 01 on one of them, and fails where a definition says something else.
use Rattle.std.proofs.Common.{Some, Err}
use mathlib.Core.Bool.{true}
use mathlib.Core.List.{List, [], ◌∷◌, ◌++◌}
use mathlib.Core.Path.{◌≡◌, refl}
use Prim.Native.Nat.{ℕ}
use Rattle.tables.specs.Words.{first_below}
use Rattle.tables.specs.Terms.{symbols}
use Rattle.tables.specs.Checks.{checked}
use Rattle.tables.specs.declared.Refusal.TheVariants.{Length, Layout, Arity}
use Rattle.tables.proofs.Computing.{computing}

-- the bytes of a term record over at most one argument, with its byte 15
abbrev term_record_of : ℕ → ℕ → ℕ → ℕ → List ℕ
term_record_of symbol arity argument last = symbol ∷ 0 ∷ arity ∷ 0 ∷ argument ∷ 0 ∷ 0 ∷ 0 ∷ 0 ∷ 0 ∷ 0 ∷ 0 ∷ 0 ∷ 0 ∷ 0 ∷ last ∷ []

-- "first such record": of two that pass, the lower
pub first_is_the_lower : first_below (λ k. true) 2 ≡ Some 0
unfolding computing
first_is_the_lower = refl

-- "A term's symbols are its own symbol and those of its arguments", not the numbers of terms: f(k) has f and k
pub symbols_not_terms : symbols (record { symbol = 10; arguments = [] } ∷ record { symbol = 20; arguments = 0 ∷ [] } ∷ []) 1 ≡ 20 ∷ 10 ∷ []
unfolding computing
symbols_not_terms = refl

-- "in rows 1, 2 and 7 the lower place first": both tables have a byte too many
pub lower_place_first : checked (0 ∷ []) (0 ∷ []) ≡ Err (Length 0)
unfolding computing
lower_place_first = refl

-- "12-15 zero": the second record's byte 15 is not
pub byte_15_is_zero : checked (term_record_of 10 0 0 0 ++ term_record_of 11 0 0 1) [] ≡ Err (Layout 1)
unfolding computing
byte_15_is_zero = refl

-- "a symbol had another arity in an earlier record": k, then k(k)
pub other_arity_refused : checked (term_record_of 10 0 0 0 ++ term_record_of 10 1 0 0) [] ≡ Err (Arity 1)
unfolding computing
other_arity_refused = refl

-- "Checks run in the order of the rows, each over its whole table": k, k, k(k) has row 5's fault first and is refused by row 4
pub arity_before_repeated : checked (term_record_of 10 0 0 0 ++ term_record_of 10 0 0 0 ++ term_record_of 10 1 0 0) [] ≡ Err (Arity 2)
unfolding computing
arity_before_repeated = refl

-- Room and refusals of MIDDLE and of small tables, computed. Each theorem is a sentence of 01, and fails where a definition says something else.
use mathlib.Core.List.{List, [], ◌∷◌}
use mathlib.Core.Path.{◌≡◌, refl}
use Prim.Native.Nat.{ℕ}
use lib.ListN.{replicate}
use Rattle.demands.specs.declared.Numbers.{Numbers}
use Rattle.demands.specs.Call.{judged}
use Rattle.demands.proofs.Computing.{computing}
use Rattle.demands.proofs.Bench.{bytes, middle_terms, middle_literals, inconsistent_by}

-- "A refusal returns its number and place, its other numbers are 0"
abbrev pub refused_at : ℕ → ℕ → Numbers
refused_at n p = record { verdict = 2; number = n; place = p; disequality = 0; added = 0; records = 0 }

-- the numbers of a call that is lent buffers of these lengths
unfoldable pub numbers_with : List ℕ → List ℕ → ℕ → ℕ → ℕ → Numbers
unfolding computing
numbers_with terms literals partition added clauses =
    (judged terms literals (record { partition = replicate partition 170; added = replicate added 187; clauses = replicate clauses 204 })).numbers

-- MIDDLE adds one term of 16 bytes and has one clause record of 8: that much room will do, and none for a partition
pub exact_room : numbers_with (bytes middle_terms) (bytes middle_literals) 0 16 8 ≡ inconsistent_by 3 1 1
unfolding numbers_with bytes middle_terms middle_literals
exact_room = refl

-- "1 added terms", "2 clauses"; "the lower place first"
pub lower_place_of_room : numbers_with (bytes middle_terms) (bytes middle_literals) 0 15 7 ≡ refused_at 7 1
unfolding numbers_with bytes middle_terms middle_literals
lower_place_of_room = refl

pub clauses_too_short : numbers_with (bytes middle_terms) (bytes middle_literals) 0 16 7 ≡ refused_at 7 2
unfolding numbers_with bytes middle_terms middle_literals
clauses_too_short = refl

-- "0 partition": one idle term wants two bytes
pub partition_too_short : numbers_with (10 ∷ replicate 15 0) [] 1 0 0 ≡ refused_at 7 0
unfolding numbers_with
partition_too_short = refl

-- row 1 comes before all else
pub length_refused : numbers_with (10 ∷ []) [] 0 0 0 ≡ refused_at 1 0
unfolding numbers_with
length_refused = refl

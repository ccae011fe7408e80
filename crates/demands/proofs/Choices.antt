-- 01, "The library's own run": its three choices, each by a case on small tables where another choice brings back other bytes. P1 to P11 do not tell
-- them apart. Proved of the definitions at byte level, as the bench cases are; closure/proofs/Choices has the runs of these tables.
use mathlib.Core.List.{List, [], ◌∷◌, ◌++◌, map}
use mathlib.Core.Path.{◌≡◌, refl}
use Prim.Native.Nat.{ℕ}
use lib.ListN.{replicate}
use Rattle.demands.proofs.Bench.{Case, inconsistent_by, returned_for}

-- the term record of a constant, and of a symbol over one term, their numbers below 256
constant : ℕ → List ℕ
constant symbol = symbol ∷ replicate 15 0

over : ℕ → ℕ → List ℕ
over symbol argument = symbol ∷ 0 ∷ 1 ∷ 0 ∷ argument ∷ replicate 11 0

-- "A derived edge is B where both ends are B-colourable, else A": terms k, f(k), f(f(k)). A k=f(k), B f(k) different f(f(k)). One clause, 0=1.
-- In A it would be 1=2.
colour_b : Case
unfolding constant over
colour_b =
    record {
      terms = constant 10 ∷ over 20 0 ∷ over 20 1 ∷ [];
      literals = (1 ∷ 1 ∷ 0 ∷ 0 ∷ 1 ∷ 0 ∷ 0 ∷ 0 ∷ []) ∷
          (2 ∷ 2 ∷ 1 ∷ 0 ∷ 2 ∷ 0 ∷ 0 ∷ 0 ∷ []) ∷
          [];
      returned = record {
        numbers = inconsistent_by 1 0 1;
        buffers = record {
          partition = replicate 6 170;
          added = replicate 18 187;
          clauses = (2 ∷ 0 ∷ 0 ∷ 0 ∷ 1 ∷ 0 ∷ 0 ∷ 0 ∷ []) ++ replicate 10 204;
        };
      };
    }

-- "the first pair (s below t, smallest s, then smallest t)": terms k, f(k), .., f(f(f(f(f(k))))), each over the one before. A 0=3, A 0=4, A 0=5,
-- A 1=2, B 1 different 4. One clause, 0=3. By smallest t or largest s it would be 1=2 and 3=4, by smallest s and largest t 0=4 and 4=5.
first_pair : Case
unfolding constant over
first_pair =
    record {
      terms = constant 10 ∷ over 20 0 ∷ over 20 1 ∷ over 20 2 ∷ over 20 3 ∷ over 20 4 ∷ [];
      literals = (1 ∷ 1 ∷ 0 ∷ 0 ∷ 3 ∷ 0 ∷ 0 ∷ 0 ∷ []) ∷
          (1 ∷ 1 ∷ 0 ∷ 0 ∷ 4 ∷ 0 ∷ 0 ∷ 0 ∷ []) ∷
          (1 ∷ 1 ∷ 0 ∷ 0 ∷ 5 ∷ 0 ∷ 0 ∷ 0 ∷ []) ∷
          (1 ∷ 1 ∷ 1 ∷ 0 ∷ 2 ∷ 0 ∷ 0 ∷ 0 ∷ []) ∷
          (2 ∷ 2 ∷ 1 ∷ 0 ∷ 4 ∷ 0 ∷ 0 ∷ 0 ∷ []) ∷
          [];
      returned = record {
        numbers = inconsistent_by 4 0 1;
        buffers = record {
          partition = replicate 6 170;
          added = replicate 18 187;
          clauses = (2 ∷ 0 ∷ 0 ∷ 0 ∷ 3 ∷ 0 ∷ 0 ∷ 0 ∷ []) ++ replicate 10 204;
        };
      };
    }

-- "the first met on the parent path from the argument of the end that is A-colourable only": terms k, m, b, f(b), a, f(a). A a=m, B m=k, B k=b,
-- A k=f(a), B k different f(b). Added term 6 is f(m); one clause, 0=6. Met from b, or as the last or the lowest one, it would be f(k), with a clause
-- 0=1 -> 0=6.
first_met : Case
unfolding constant over
first_met =
    record {
      terms = constant 10 ∷ constant 11 ∷ constant 15 ∷ over 20 2 ∷ constant 14 ∷ over 20 4 ∷ [];
      literals = (1 ∷ 1 ∷ 4 ∷ 0 ∷ 1 ∷ 0 ∷ 0 ∷ 0 ∷ []) ∷
          (2 ∷ 1 ∷ 1 ∷ 0 ∷ 0 ∷ 0 ∷ 0 ∷ 0 ∷ []) ∷
          (2 ∷ 1 ∷ 0 ∷ 0 ∷ 2 ∷ 0 ∷ 0 ∷ 0 ∷ []) ∷
          (1 ∷ 1 ∷ 0 ∷ 0 ∷ 5 ∷ 0 ∷ 0 ∷ 0 ∷ []) ∷
          (2 ∷ 2 ∷ 0 ∷ 0 ∷ 3 ∷ 0 ∷ 0 ∷ 0 ∷ []) ∷
          [];
      returned = record {
        numbers = inconsistent_by 4 1 1;
        buffers = record {
          partition = replicate 6 170;
          added = over 20 1 ++ replicate 2 187;
          clauses = (2 ∷ 0 ∷ 0 ∷ 0 ∷ 6 ∷ 0 ∷ 0 ∷ 0 ∷ []) ++ replicate 10 204;
        };
      };
    }

pub choice_cases : List Case
unfolding colour_b first_pair first_met
choice_cases = colour_b ∷ first_pair ∷ first_met ∷ []

-- each of the three cases comes back by 01's choice
pub choices : map returned_for choice_cases ≡ map (λ c. c.returned) choice_cases
unfolding choice_cases returned_for
choices = refl

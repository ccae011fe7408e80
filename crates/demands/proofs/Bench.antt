-- 01, "Bench cases": P1 to P11, proved of the definitions at byte level: the tables' bytes in; the answer and every byte of the three lent buffers out.
-- The buffers are lent with sentinel bytes (170, 187, 204), so that what is not written is seen to stay.
use mathlib.Core.List.{List, [], ◌∷◌, ◌++◌, map, flat_map}
use mathlib.Core.Path.{◌≡◌, refl}
use Prim.Native.Nat.{ℕ}
use lib.ListN.{replicate}
use Rattle.demands.specs.declared.Numbers.{Numbers}
use Rattle.demands.specs.Call.{judged}
use Rattle.demands.specs.Buffers.{Buffers, Returned}
use Rattle.demands.proofs.Computing.{computing}

-- one case: the tables, and what comes back
pub record Case : Type 0 where
  pub terms : List (List ℕ)
  pub literals : List (List ℕ)
  pub returned : Returned

-- the numbers of the two verdicts: "The consistent answer's three numbers are 0", and an inconsistent one carries its disequality and two counts
abbrev pub consistently : Numbers
consistently = record { verdict = 0; number = 0; place = 0; disequality = 0; added = 0; records = 0 }

abbrev pub inconsistent_by : ℕ → ℕ → ℕ → Numbers
inconsistent_by d a r = record { verdict = 1; number = 0; place = 0; disequality = d; added = a; records = r }

unfoldable pub bytes : List (List ℕ) → List ℕ
bytes = flat_map (λ r. r)

-- the buffers as they are lent
pub lent : Buffers
lent = record { partition = replicate 6 170; added = replicate 18 187; clauses = replicate 18 204 }

-- the terms of LATE: k, m, p, q, f(k), f(m)
late_terms : List (List ℕ)
late_terms =
    (10 ∷ 0 ∷ 0 ∷ 0 ∷ 0 ∷ 0 ∷ 0 ∷ 0 ∷ 0 ∷ 0 ∷ 0 ∷ 0 ∷ 0 ∷ 0 ∷ 0 ∷ 0 ∷ []) ∷
    (11 ∷ 0 ∷ 0 ∷ 0 ∷ 0 ∷ 0 ∷ 0 ∷ 0 ∷ 0 ∷ 0 ∷ 0 ∷ 0 ∷ 0 ∷ 0 ∷ 0 ∷ 0 ∷ []) ∷
    (12 ∷ 0 ∷ 0 ∷ 0 ∷ 0 ∷ 0 ∷ 0 ∷ 0 ∷ 0 ∷ 0 ∷ 0 ∷ 0 ∷ 0 ∷ 0 ∷ 0 ∷ 0 ∷ []) ∷
    (13 ∷ 0 ∷ 0 ∷ 0 ∷ 0 ∷ 0 ∷ 0 ∷ 0 ∷ 0 ∷ 0 ∷ 0 ∷ 0 ∷ 0 ∷ 0 ∷ 0 ∷ 0 ∷ []) ∷
    (20 ∷ 0 ∷ 1 ∷ 0 ∷ 0 ∷ 0 ∷ 0 ∷ 0 ∷ 0 ∷ 0 ∷ 0 ∷ 0 ∷ 0 ∷ 0 ∷ 0 ∷ 0 ∷ []) ∷
    (20 ∷ 0 ∷ 1 ∷ 0 ∷ 1 ∷ 0 ∷ 0 ∷ 0 ∷ 0 ∷ 0 ∷ 0 ∷ 0 ∷ 0 ∷ 0 ∷ 0 ∷ 0 ∷ []) ∷
    []

-- and its equalities: A p=f(k), A q=f(m), B k=m
late_equalities : List (List ℕ)
late_equalities =
    (1 ∷ 1 ∷ 2 ∷ 0 ∷ 4 ∷ 0 ∷ 0 ∷ 0 ∷ []) ∷
    (1 ∷ 1 ∷ 3 ∷ 0 ∷ 5 ∷ 0 ∷ 0 ∷ 0 ∷ []) ∷
    (2 ∷ 1 ∷ 0 ∷ 0 ∷ 1 ∷ 0 ∷ 0 ∷ 0 ∷ []) ∷
    []

-- the terms of MIDDLE: k, m, p, a, b, g(a,m), g(k,b)
unfoldable pub middle_terms : List (List ℕ)
middle_terms =
    (10 ∷ 0 ∷ 0 ∷ 0 ∷ 0 ∷ 0 ∷ 0 ∷ 0 ∷ 0 ∷ 0 ∷ 0 ∷ 0 ∷ 0 ∷ 0 ∷ 0 ∷ 0 ∷ []) ∷
    (11 ∷ 0 ∷ 0 ∷ 0 ∷ 0 ∷ 0 ∷ 0 ∷ 0 ∷ 0 ∷ 0 ∷ 0 ∷ 0 ∷ 0 ∷ 0 ∷ 0 ∷ 0 ∷ []) ∷
    (12 ∷ 0 ∷ 0 ∷ 0 ∷ 0 ∷ 0 ∷ 0 ∷ 0 ∷ 0 ∷ 0 ∷ 0 ∷ 0 ∷ 0 ∷ 0 ∷ 0 ∷ 0 ∷ []) ∷
    (14 ∷ 0 ∷ 0 ∷ 0 ∷ 0 ∷ 0 ∷ 0 ∷ 0 ∷ 0 ∷ 0 ∷ 0 ∷ 0 ∷ 0 ∷ 0 ∷ 0 ∷ 0 ∷ []) ∷
    (15 ∷ 0 ∷ 0 ∷ 0 ∷ 0 ∷ 0 ∷ 0 ∷ 0 ∷ 0 ∷ 0 ∷ 0 ∷ 0 ∷ 0 ∷ 0 ∷ 0 ∷ 0 ∷ []) ∷
    (21 ∷ 0 ∷ 2 ∷ 0 ∷ 3 ∷ 0 ∷ 1 ∷ 0 ∷ 0 ∷ 0 ∷ 0 ∷ 0 ∷ 0 ∷ 0 ∷ 0 ∷ 0 ∷ []) ∷
    (21 ∷ 0 ∷ 2 ∷ 0 ∷ 0 ∷ 0 ∷ 4 ∷ 0 ∷ 0 ∷ 0 ∷ 0 ∷ 0 ∷ 0 ∷ 0 ∷ 0 ∷ 0 ∷ []) ∷
    []

-- and its literals: A a=k, A p=g(a,m), B b=m, B p different g(k,b)
unfoldable pub middle_literals : List (List ℕ)
middle_literals =
    (1 ∷ 1 ∷ 3 ∷ 0 ∷ 0 ∷ 0 ∷ 0 ∷ 0 ∷ []) ∷
    (1 ∷ 1 ∷ 2 ∷ 0 ∷ 5 ∷ 0 ∷ 0 ∷ 0 ∷ []) ∷
    (2 ∷ 1 ∷ 4 ∷ 0 ∷ 1 ∷ 0 ∷ 0 ∷ 0 ∷ []) ∷
    (2 ∷ 2 ∷ 2 ∷ 0 ∷ 6 ∷ 0 ∷ 0 ∷ 0 ∷ []) ∷
    []

-- P1: both tables empty: consistent, nothing written
p1 : Case
p1 =
    record {
      terms = [];
      literals = [];
      returned = record { numbers = consistently; buffers = record { partition = replicate 6 170; added = replicate 18 187; clauses = replicate 18 204 } };
    }

-- P2: terms p, q; A p=q: consistent, classes 0, 0
p2 : Case
p2 =
    record {
      terms = (12 ∷ 0 ∷ 0 ∷ 0 ∷ 0 ∷ 0 ∷ 0 ∷ 0 ∷ 0 ∷ 0 ∷ 0 ∷ 0 ∷ 0 ∷ 0 ∷ 0 ∷ 0 ∷ []) ∷
          (13 ∷ 0 ∷ 0 ∷ 0 ∷ 0 ∷ 0 ∷ 0 ∷ 0 ∷ 0 ∷ 0 ∷ 0 ∷ 0 ∷ 0 ∷ 0 ∷ 0 ∷ 0 ∷ []) ∷
          [];
      literals = (1 ∷ 1 ∷ 0 ∷ 0 ∷ 1 ∷ 0 ∷ 0 ∷ 0 ∷ []) ∷
          [];
      returned = record { numbers = consistently; buffers = record { partition = (0 ∷ 0 ∷ 0 ∷ 0 ∷ []) ++ replicate 2 170; added = replicate 18 187; clauses = replicate 18 204 } };
    }

-- P3: p, q; A p=q, B p different q: clause record `02 00 00 00 01 00 00 00`
p3 : Case
p3 =
    record {
      terms = (12 ∷ 0 ∷ 0 ∷ 0 ∷ 0 ∷ 0 ∷ 0 ∷ 0 ∷ 0 ∷ 0 ∷ 0 ∷ 0 ∷ 0 ∷ 0 ∷ 0 ∷ 0 ∷ []) ∷
          (13 ∷ 0 ∷ 0 ∷ 0 ∷ 0 ∷ 0 ∷ 0 ∷ 0 ∷ 0 ∷ 0 ∷ 0 ∷ 0 ∷ 0 ∷ 0 ∷ 0 ∷ 0 ∷ []) ∷
          [];
      literals = (1 ∷ 1 ∷ 0 ∷ 0 ∷ 1 ∷ 0 ∷ 0 ∷ 0 ∷ []) ∷
          (2 ∷ 2 ∷ 0 ∷ 0 ∷ 1 ∷ 0 ∷ 0 ∷ 0 ∷ []) ∷
          [];
      returned = record { numbers = inconsistent_by 1 0 1; buffers = record { partition = replicate 6 170; added = replicate 18 187; clauses = (2 ∷ 0 ∷ 0 ∷ 0 ∷ 1 ∷ 0 ∷ 0 ∷ 0 ∷ []) ++ replicate 10 204 } };
    }

-- P4: p, q; B p=q, A p different q: `03 00 00 00 01 00 00 00`
p4 : Case
p4 =
    record {
      terms = (12 ∷ 0 ∷ 0 ∷ 0 ∷ 0 ∷ 0 ∷ 0 ∷ 0 ∷ 0 ∷ 0 ∷ 0 ∷ 0 ∷ 0 ∷ 0 ∷ 0 ∷ 0 ∷ []) ∷
          (13 ∷ 0 ∷ 0 ∷ 0 ∷ 0 ∷ 0 ∷ 0 ∷ 0 ∷ 0 ∷ 0 ∷ 0 ∷ 0 ∷ 0 ∷ 0 ∷ 0 ∷ 0 ∷ []) ∷
          [];
      literals = (2 ∷ 1 ∷ 0 ∷ 0 ∷ 1 ∷ 0 ∷ 0 ∷ 0 ∷ []) ∷
          (1 ∷ 2 ∷ 0 ∷ 0 ∷ 1 ∷ 0 ∷ 0 ∷ 0 ∷ []) ∷
          [];
      returned = record { numbers = inconsistent_by 1 0 1; buffers = record { partition = replicate 6 170; added = replicate 18 187; clauses = (3 ∷ 0 ∷ 0 ∷ 0 ∷ 1 ∷ 0 ∷ 0 ∷ 0 ∷ []) ++ replicate 10 204 } };
    }

-- P5: p; B p different p: inconsistent by 0, no record
p5 : Case
p5 =
    record {
      terms = (12 ∷ 0 ∷ 0 ∷ 0 ∷ 0 ∷ 0 ∷ 0 ∷ 0 ∷ 0 ∷ 0 ∷ 0 ∷ 0 ∷ 0 ∷ 0 ∷ 0 ∷ 0 ∷ []) ∷
          [];
      literals = (2 ∷ 2 ∷ 0 ∷ 0 ∷ 0 ∷ 0 ∷ 0 ∷ 0 ∷ []) ∷
          [];
      returned = record { numbers = inconsistent_by 0 0 0; buffers = record { partition = replicate 6 170; added = replicate 18 187; clauses = replicate 18 204 } };
    }

-- P6: the same in A: one record of kind 4
p6 : Case
p6 =
    record {
      terms = (12 ∷ 0 ∷ 0 ∷ 0 ∷ 0 ∷ 0 ∷ 0 ∷ 0 ∷ 0 ∷ 0 ∷ 0 ∷ 0 ∷ 0 ∷ 0 ∷ 0 ∷ 0 ∷ []) ∷
          [];
      literals = (1 ∷ 2 ∷ 0 ∷ 0 ∷ 0 ∷ 0 ∷ 0 ∷ 0 ∷ []) ∷
          [];
      returned = record { numbers = inconsistent_by 0 0 1; buffers = record { partition = replicate 6 170; added = replicate 18 187; clauses = (4 ∷ 0 ∷ 0 ∷ 0 ∷ 0 ∷ 0 ∷ 0 ∷ 0 ∷ []) ++ replicate 10 204 } };
    }

-- P7: LATE: terms k, m, p, q, f(k), f(m). A p=f(k), A q=f(m), B k=m, B p different q: 0=1 -> 2=3
p7 : Case
unfolding late_terms late_equalities
p7 =
    record {
      terms = late_terms;
      literals = late_equalities ++ ((2 ∷ 2 ∷ 2 ∷ 0 ∷ 3 ∷ 0 ∷ 0 ∷ 0 ∷ []) ∷ []);
      returned = record { numbers = inconsistent_by 3 0 2; buffers = record { partition = replicate 6 170; added = replicate 18 187; clauses = (1 ∷ 0 ∷ 0 ∷ 0 ∷ 1 ∷ 0 ∷ 0 ∷ 0 ∷ 2 ∷ 0 ∷ 2 ∷ 0 ∷ 3 ∷ 0 ∷ 0 ∷ 0 ∷ []) ++ replicate 2 204 } };
    }

-- P8: LATE with its last literal in A: premise 0=1, then kind 4
p8 : Case
unfolding late_terms late_equalities
p8 =
    record {
      terms = late_terms;
      literals = late_equalities ++ ((1 ∷ 2 ∷ 2 ∷ 0 ∷ 3 ∷ 0 ∷ 0 ∷ 0 ∷ []) ∷ []);
      returned = record { numbers = inconsistent_by 3 0 2; buffers = record { partition = replicate 6 170; added = replicate 18 187; clauses = (1 ∷ 0 ∷ 0 ∷ 0 ∷ 1 ∷ 0 ∷ 0 ∷ 0 ∷ 4 ∷ 0 ∷ 0 ∷ 0 ∷ 0 ∷ 0 ∷ 0 ∷ 0 ∷ []) ++ replicate 2 204 } };
    }

-- P9: MIDDLE: terms k, m, p, a, b, g(a,m), g(k,b). A a=k, A p=g(a,m), B b=m, B p different g(k,b). Added term 7 is g(k,m); one clause, 2=7
p9 : Case
unfolding middle_terms middle_literals
p9 =
    record {
      terms = middle_terms;
      literals = middle_literals;
      returned = record { numbers = inconsistent_by 3 1 1; buffers = record { partition = replicate 6 170; added = (21 ∷ 0 ∷ 2 ∷ 0 ∷ 0 ∷ 0 ∷ 1 ∷ 0 ∷ 0 ∷ 0 ∷ 0 ∷ 0 ∷ 0 ∷ 0 ∷ 0 ∷ 0 ∷ []) ++ replicate 2 187; clauses = (2 ∷ 0 ∷ 2 ∷ 0 ∷ 7 ∷ 0 ∷ 0 ∷ 0 ∷ []) ++ replicate 10 204 } };
    }

-- P10: MIDDLE with g(k,m) given as term 7 and B 7=7 added at the end: nothing added, same clause
p10 : Case
unfolding middle_terms middle_literals
p10 =
    record {
      terms = middle_terms ++ ((21 ∷ 0 ∷ 2 ∷ 0 ∷ 0 ∷ 0 ∷ 1 ∷ 0 ∷ 0 ∷ 0 ∷ 0 ∷ 0 ∷ 0 ∷ 0 ∷ 0 ∷ 0 ∷ []) ∷ []);
      literals = middle_literals ++ ((2 ∷ 1 ∷ 7 ∷ 0 ∷ 7 ∷ 0 ∷ 0 ∷ 0 ∷ []) ∷ []);
      returned = record { numbers = inconsistent_by 3 0 1; buffers = record { partition = replicate 6 170; added = replicate 18 187; clauses = (2 ∷ 0 ∷ 2 ∷ 0 ∷ 7 ∷ 0 ∷ 0 ∷ 0 ∷ []) ++ replicate 10 204 } };
    }

-- P11: no literal, one term: class 65535
p11 : Case
p11 =
    record {
      terms = (10 ∷ 0 ∷ 0 ∷ 0 ∷ 0 ∷ 0 ∷ 0 ∷ 0 ∷ 0 ∷ 0 ∷ 0 ∷ 0 ∷ 0 ∷ 0 ∷ 0 ∷ 0 ∷ []) ∷
          [];
      literals = [];
      returned = record { numbers = consistently; buffers = record { partition = (255 ∷ 255 ∷ []) ++ replicate 4 170; added = replicate 18 187; clauses = replicate 18 204 } };
    }

pub bench_cases : List Case
unfolding p1 p2 p3 p4 p5 p6 p7 p8 p9 p10 p11
bench_cases = p1 ∷ p2 ∷ p3 ∷ p4 ∷ p5 ∷ p6 ∷ p7 ∷ p8 ∷ p9 ∷ p10 ∷ p11 ∷ []

-- what comes back for a case: a theorem that opens this name computes it
unfoldable pub returned_for : Case → Returned
unfolding computing bytes lent
returned_for c = judged (bytes c.terms) (bytes c.literals) lent

-- each of the eleven cases comes back as 01 prints it
pub bench : map returned_for bench_cases ≡ map (λ c. c.returned) bench_cases
unfolding bench_cases returned_for
bench = refl

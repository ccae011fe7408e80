-- A reader of 01's clause records: "0 kind (1 premise, 2 equal, 3 different, 4 false); 1 zero; 2-3 left; 4-5 right; 6-7 zero."
use Rattle.std.specs.Prelude.{cond, List, [], ◌∷◌, ◌++◌, map, ℕ, eqb}
use Rattle.tables.specs.Words.{below, Pair, pair}
use Rattle.tables.specs.Bytes.{byte_at, word_at, record_at}
use Rattle.clauses.specs.Clauses.{Clause, Conclusion, equals, differs, falsum}

-- "2-3 left; 4-5 right"
unfoldable pub pair_read : List ℕ → Pair
pair_read r = pair (word_at r 2) (word_at r 4)

-- "2 equal, 3 different, 4 false"; there is no other kind of conclusion
unfoldable pub conclusion_read : List ℕ → Conclusion
conclusion_read r =
    cond (eqb (byte_at r 0) 2) (equals (pair_read r)) (cond (eqb (byte_at r 0) 3) (differs (pair_read r)) falsum)

-- "A clause is its premises .., then one record of kind 2, 3 or 4": the clauses of the records, after some premises
unfoldable pub clauses_after : List Pair → List (List ℕ) → List Clause
clauses_after ps [] = []
clauses_after ps (r ∷ rs) =
    let premise = clauses_after (ps ++ (pair_read r ∷ [])) rs in
    let clause : Clause = record { premises = ps; conclusion = conclusion_read r } in
    let closed : List Clause = clause ∷ clauses_after [] rs in
    cond (eqb (byte_at r 0) 1) premise closed

-- the clauses of the first records of a byte string, so many of them
unfoldable pub clauses_read : ℕ → List ℕ → List Clause
clauses_read count bytes = clauses_after [] (map (record_at 8 bytes) (below count))

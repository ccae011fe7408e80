-- 01, "Reading the clauses": the order of the clauses, and the clause records.
use Rattle.std.specs.Prelude.{Bool, true, false, ℕ}
use mathlib.Core.List.{List, [], ◌∷◌, ◌++◌, map, flat_map}
use Rattle.tables.specs.Words.{Pair, pair, same_pair, any, keep, pairs_below}
use Rattle.tables.specs.Bytes.{word_bytes}
use Rattle.clauses.specs.Clauses.{Clause, Conclusion, equals, differs, falsum}

-- the pair stands in the list
unfoldable pub among_pairs : List Pair → Pair → Bool
among_pairs ps p = any (same_pair p) ps

-- "each once, ascending by left and then right": the pairs of a list, of term numbers below n
unfoldable pub ascending : ℕ → List Pair → List Pair
ascending n ps = keep (among_pairs ps) (pairs_below n)

-- the clause concludes this equality
unfoldable pub concludes : Pair → Conclusion → Bool
concludes p (equals q) = same_pair p q
concludes p (differs q) = false
concludes p falsum = false

abbrev pub concluding : Pair → Clause → Bool
concluding p c = concludes p c.conclusion

-- the clause is of kind 3 or 4
unfoldable pub is_last : Conclusion → Bool
is_last (equals q) = false
is_last (differs q) = true
is_last falsum = true

-- only the first of a list
unfoldable pub first_alone : List Clause → List Clause
first_alone [] = []
first_alone (c ∷ cs) = c ∷ []

-- "A clause is its premises, each once, ascending by left and then right"
abbrev pub clause_in_order : ℕ → Clause → Clause
clause_in_order n c = record { premises = ascending n c.premises; conclusion = c.conclusion }

-- "Clauses stand once each, ascending by conclusion; a clause of kind 3 or 4 is last."
unfoldable pub standing : ℕ → List Clause → List Clause
standing n cs =
    map (clause_in_order n)
    (flat_map (λ p. first_alone (keep (concluding p) cs)) (pairs_below n) ++
    first_alone (keep (λ c. is_last c.conclusion) cs))

-- "Clause record, 8 bytes: 0 kind (1 premise, 2 equal, 3 different, 4 false); 1 zero; 2-3 left; 4-5 right; 6-7 zero."
unfoldable pub clause_record : ℕ → Pair → List ℕ
clause_record kind p = (kind ∷ 0 ∷ word_bytes p.left) ++ word_bytes p.right ++ (0 ∷ 0 ∷ [])

-- "in kind 4 both are 0"
unfoldable pub conclusion_record : Conclusion → List ℕ
conclusion_record (equals p) = clause_record 2 p
conclusion_record (differs p) = clause_record 3 p
conclusion_record falsum = clause_record 4 (pair 0 0)

-- a clause as its records: its premises, "then one record of kind 2, 3 or 4"
unfoldable pub records_of : Clause → List (List ℕ)
records_of c = map (clause_record 1) c.premises ++ (conclusion_record c.conclusion ∷ [])

-- all clause records of a summary, over term numbers below n. "No record at all means true."
unfoldable pub clause_records : ℕ → List Clause → List (List ℕ)
clause_records n cs = flat_map records_of (standing n cs)

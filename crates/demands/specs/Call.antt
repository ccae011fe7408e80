-- The whole call as a procedure: the two tables and the three lent buffers as bytes, and all that comes back. 01's rows in their order. Demands says
-- the same without a procedure, and proofs/Promises shows that it settles all of it.
use Rattle.std.specs.Prelude.{Bool, cond, ◌≡◌, ℕ, ltb, length, Option, Some, None, Ok, Err}
use mathlib.Core.List.{List, map, flat_map}
use Rattle.tables.specs.Bytes.{AllBytes}
use Rattle.tables.specs.Terms.{Term}
use Rattle.tables.specs.TermTable.{terms_of}
use Rattle.tables.specs.LiteralTable.{literals_of}
use Rattle.tables.specs.declared.Literal.{Literal}
use Rattle.tables.specs.Checks.{Check, checked, number_of, place_in}
use Rattle.closure.specs.Steps.{State}
use Rattle.closure.specs.OwnRun.{own_run}
use Rattle.clauses.specs.Reading.{literal_at, critical}
use Rattle.demands.specs.declared.Answer.TheVariants.{Refused}
use Rattle.demands.specs.Answers.{numbers_of}
use Rattle.demands.specs.Buffers.{Buffers, Returned, partition_bytes, term_bytes}
use Rattle.demands.specs.Verdicts.{records_in, with_classes, with_summary}

-- "A refusal returns its number and place .. and it changes no output byte."
abbrev pub refused : Buffers → ℕ → ℕ → Returned
refused bs number place = record { numbers = numbers_of (Refused number place); buffers = bs }

-- row 7: "an output buffer is too short for this answer"
unfoldable pub too_short : List ℕ → List ℕ → Bool
too_short bytes buffer = ltb (length buffer) (length bytes)

-- consistent: "Room is judged after the verdict and only for the buffers that this verdict fills"
unfoldable pub consistent : Buffers → List ℕ → Returned
consistent bs classes = cond (too_short classes bs.partition) (refused bs 7 0) (with_classes bs classes)

-- inconsistent: room, "the lower place first"
unfoldable pub inconsistent : Buffers → ℕ → List (List ℕ) → List (List ℕ) → Returned
inconsistent bs disequality added records =
    cond (too_short (flat_map (λ r. r) added) bs.added) (refused bs 7 1)
    (cond (too_short (flat_map (λ r. r) records) bs.clauses) (refused bs 7 2)
    (with_summary bs disequality added records))

-- the verdict: consistent, or inconsistent by the critical disequality
unfoldable pub verdict : Buffers → List Term → List Literal → State → Option ℕ → Returned
verdict bs ts ls st None = consistent bs (partition_bytes ts ls st.graph)
verdict bs ts ls st (Some d) = inconsistent bs d (map term_bytes st.added) (records_in ts ls st (literal_at ls d))

-- row 8 stands before row 7: "a middle term is needed and a parent path has no shared term", place 0
unfoldable pub ended : Buffers → List Term → List Literal → Option State → Returned
ended bs ts ls None = refused bs 8 0
ended bs ts ls (Some st) = verdict bs ts ls st (critical ls st.graph)

-- rows 1 to 6 come first: the number and place of the row that refuses
unfoldable pub after_checks : Buffers → Check → Returned → Returned
after_checks bs (Ok sound) next = next
after_checks bs (Err row) next = refused bs (number_of row) (place_in row)

-- the call on two tables and three lent buffers
unfoldable pub judged : List ℕ → List ℕ → Buffers → Returned
judged terms literals bs =
    let ts = terms_of terms in
    let ls = literals_of literals in
    let next = ended bs ts ls (own_run ts ls) in
    after_checks bs (checked terms literals) next

-- the three buffers, for contracts, which have each by itself
abbrev pub buffers_of : List ℕ → List ℕ → List ℕ → Buffers
buffers_of partition added clauses = record { partition = partition; added = added; clauses = clauses }

-- what every contract of the call says: all that comes back is that of the definition. The tables are byte slices, so their entries are bytes.
pub record Called (terms literals : List ℕ) (bs : Buffers) (r : Returned) : Type 0 where
  pub returned : r ≡ judged terms literals bs
  pub terms_are_bytes : AllBytes terms
  pub literals_are_bytes : AllBytes literals

-- 01, "What comes back": the two verdicts, and what each writes.
use mathlib.Core.List.{List, map, flat_map}
use Rattle.std.specs.Prelude.{◌≡◌, ℕ, length, Option, Some, None}
use Rattle.tables.specs.Terms.{Term}
use Rattle.tables.specs.declared.Literal.{Literal}
use Rattle.closure.specs.Steps.{State, table_of}
use Rattle.closure.specs.OwnRun.{own_run}
use Rattle.clauses.specs.Reading.{literal_at, critical, summary}
use Rattle.clauses.specs.Records.{clause_records}
use Rattle.demands.specs.declared.Answer.TheVariants.{Consistent, Inconsistent}
use Rattle.demands.specs.Answers.{numbers_of}
use Rattle.demands.specs.Buffers.{Buffers, Returned, partition_bytes, term_bytes, written_over}

-- the library's own run ends in st, and o is the critical disequality there: "None: consistent."
pub record Verdict (ts : List Term) (ls : List Literal) (st : State) (o : Option ℕ) : Type 0 where
  pub last : own_run ts ls ≡ Some st
  pub found : critical ls st.graph ≡ o

-- the summary's clause records in a state: those of the literal, over all given and added terms
unfoldable pub records_in : List Term → List Literal → State → Literal → List (List ℕ)
records_in ts ls st l = clause_records (length (table_of ts st)) (summary ts ls (table_of ts st) st.graph l)

-- "Consistent: the partition buffer's first 2n bytes hold" the classes; "the buffers of the other verdict, keep their content"
abbrev pub with_classes : Buffers → List ℕ → Returned
with_classes bs classes =
    let partition = written_over classes bs.partition in
    let after : Buffers = record { partition = partition; added = bs.added; clauses = bs.clauses } in
    record { numbers = numbers_of Consistent; buffers = after }

-- "Inconsistent: the answer carries the number of the disequality, the count of added terms and the count of clause records; the added terms (16 bytes
-- each, numbered on from n in order of adding) and the clause records are written."
abbrev pub with_summary : Buffers → ℕ → List (List ℕ) → List (List ℕ) → Returned
with_summary bs d terms records =
    let added = written_over (flat_map (λ r. r) terms) bs.added in
    let clauses = written_over (flat_map (λ r. r) records) bs.clauses in
    let after : Buffers = record { partition = bs.partition; added = added; clauses = clauses } in
    record { numbers = numbers_of (Inconsistent d (length terms) (length records)); buffers = after }

-- what comes back where no row refuses
abbrev pub answered : List Term → List Literal → Buffers → State → Option ℕ → Returned
answered ts ls bs st None = with_classes bs (partition_bytes ts ls st.graph)
answered ts ls bs st (Some d) = with_summary bs d (map term_bytes st.added) (records_in ts ls st (literal_at ls d))

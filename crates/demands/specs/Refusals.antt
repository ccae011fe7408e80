-- When a refusal is given, said without the order in which a call looks at things: what demand 1 is judged by.
use Rattle.std.specs.Prelude.{List, [], ◌∷◌, ◌++◌, ◌≡◌, ℕ, ◌*◌, ◌≤◌, ◌<◌, length, Some, None}
use Rattle.tables.specs.Terms.{Term}
use Rattle.tables.specs.TermTable.{terms_of}
use Rattle.tables.specs.LiteralTable.{literals_of}
use Rattle.tables.specs.declared.Literal.{Literal}
use Rattle.tables.specs.Rows.{Row, row, table_rows}
use Rattle.closure.specs.Steps.{State}
use Rattle.clauses.specs.Reading.{literal_at}
use Rattle.demands.specs.Buffers.{Buffers}
use Rattle.demands.specs.Verdicts.{Verdict, records_in}

-- row 7: "an output buffer is too short for this answer". "Room is judged after the verdict and only for the buffers that this verdict fills";
-- "the lower place first"
pub data Short (ts : List Term) (ls : List Literal) (bs : Buffers) (place : ℕ) : Type 0 where
  -- "0 partition"
  partition_short : (st : State) → Verdict ts ls st None →
      length bs.partition < 2 * length ts → place ≡ 0 → Short ts ls bs place
  -- "1 added terms"
  added_short : (st : State) (d : ℕ) → Verdict ts ls st (Some d) →
      length bs.added < 16 * length st.added → place ≡ 1 → Short ts ls bs place
  -- "2 clauses"
  clauses_short : (st : State) (d : ℕ) → Verdict ts ls st (Some d) →
      16 * length st.added ≤ length bs.added →
      length bs.clauses < 8 * length (records_in ts ls st (literal_at ls d)) → place ≡ 2 → Short ts ls bs place

-- all rows in 01's order. Row 8 is not among them: no run ever lacks a shared term, and no call is refused so (`own_run_never_stuck`).
abbrev pub rows_of : List ℕ → List ℕ → Buffers → List Row
rows_of terms literals bs = table_rows terms literals ++ (row 7 (Short (terms_of terms) (literals_of literals) bs) ∷ [])

-- The three demands as statements about what comes back of a call. terms and literals are the bytes of the two tables, bs the lent buffers at entry, and
-- r what came back: the answer's numbers, and the buffers at exit. The file imports only what the statements need; proofs/Promises proves them of
-- every call (`promised`).
use Rattle.std.specs.Prelude.{not, ◌↔◌, ◌≡◌, ℕ, ◌*◌, ◌<◌, T, length, take, Option, Some}
use mathlib.Core.List.{List, ◌++◌, Memᴰ}
use Rattle.tables.specs.Words.{keep, below}
use Rattle.tables.specs.Terms.{Term}
use Rattle.tables.specs.TermTable.{terms_of}
use Rattle.tables.specs.LiteralTable.{literals_of}
use Rattle.tables.specs.declared.Literal.{Literal}
use Rattle.tables.specs.declared.Kind.TheVariants.{Different}
use Rattle.tables.specs.Colours.{is_in_use}
use Rattle.tables.specs.Interpretations.{Satisfiable, FinitelySatisfiable, Entailed, FinitelyEntailed}
use Rattle.tables.specs.Rows.{Refuses, Accepted}
use Rattle.closure.specs.Graph.{joined}
use Rattle.closure.specs.Steps.{State, table_of, Run, NoStepLeft}
use Rattle.closure.specs.OwnRun.{own_run}
use Rattle.clauses.specs.Reading.{summary}
use Rattle.clauses.specs.Records.{standing}
use Rattle.clauses.specs.ReadBack.{clauses_read}
use Rattle.clauses.specs.Truth.{Summarises}
use Rattle.demands.specs.declared.Answer.TheVariants.{Consistent, Inconsistent, Refused}
use Rattle.demands.specs.Answers.{numbers_of}
use Rattle.demands.specs.Buffers.{Buffers, Returned, class_at, LowestInClass}
use Rattle.demands.specs.Verdicts.{Verdict, answered}
use Rattle.demands.specs.Refusals.{rows_of}

-- "A refusal has the number and place of document 01, comes only where 01 says, and changes no output byte."
pub record Demand1 (terms literals : List ℕ) (bs : Buffers) (r : Returned) : Type 0 where
  -- 01: "A refusal returns its number and place, its other numbers are 0"
  pub refusal_exactly : (n p : ℕ) → (r.numbers ≡ numbers_of (Refused n p)) ↔ Refuses (rows_of terms literals bs) n p
  pub refused_changes_nothing : (n p : ℕ) → r.numbers ≡ numbers_of (Refused n p) → r.buffers ≡ bs

-- what the partition's bytes hold: p is the partition buffer at exit
pub record Classes (ts : List Term) (ls : List Literal) (p : List ℕ) : Type 1 where
  -- "two terms in use share a class exactly when every interpretation that satisfies the equalities gives them one value"
  pub classes_exactly : (u v : ℕ) → T (is_in_use ts ls u) → T (is_in_use ts ls v) →
      (class_at p u ≡ class_at p v) ↔ Entailed ts ls u v
  -- equally over finite domains only
  pub classes_finitely : (u v : ℕ) → T (is_in_use ts ls u) → T (is_in_use ts ls v) →
      (class_at p u ≡ class_at p v) ↔ FinitelyEntailed ts ls u v
  -- 01: "the lowest number of a given term in its class"
  pub class_is_lowest : (t : ℕ) → T (is_in_use ts ls t) → LowestInClass ts ls p t
  -- 01: "a term not in use gets 65535"
  pub idle_class : (t : ℕ) → t < length ts → T (not (is_in_use ts ls t)) → class_at p t ≡ 65535

-- of a call that is not refused. ts and ls are the tables read.
pub record Demand2 (ts : List Term) (ls : List Literal) (bs : Buffers) (r : Returned) : Type 1 where
  -- "it answers consistent exactly when some interpretation over a finite, non-empty domain satisfies A and B"; 01: "The consistent answer's three
  -- numbers are 0."
  pub consistent_exactly : (r.numbers ≡ numbers_of Consistent) ↔ FinitelySatisfiable ts ls
  -- an inconsistent answer is right of every non-empty domain, finite or not
  pub inconsistent_unsatisfiable : (d a k : ℕ) → r.numbers ≡ numbers_of (Inconsistent d a k) → Satisfiable ts ls → ⊥
  pub classes : r.numbers ≡ numbers_of Consistent → Classes ts ls r.buffers.partition
  -- "else it returns 01's added terms and clauses, byte for byte": all that comes back, for either verdict
  pub bytes : (st : State) × (o : Option ℕ) × Verdict ts ls st o × (r ≡ answered ts ls bs st o)

-- "Closure steps in any allowed order, with any allowed middle terms and colours"
pub record Demand3 (ts : List Term) (ls : List Literal) : Type 1 where
  -- "every run ends": once it has a step, it has fewer steps than there are terms in use
  pub run_ends : {k : ℕ} {st : State} → Run ts ls k st → 0 < k → k < length (keep (is_in_use ts ls) (below (length ts)))
  -- "all that are carried to their end have the same classes for the terms in use"
  pub runs_agree : {k j : ℕ} {st other : State} →
      Run ts ls k st → NoStepLeft ts ls st → Run ts ls j other → NoStepLeft ts ls other →
      (u v : ℕ) → T (is_in_use ts ls u) → T (is_in_use ts ls v) → T (joined st.graph u v) → T (joined other.graph u v)
  -- "whenever a disequality has its sides joined, the clauses read off the graph use only shared symbols, hold in every interpretation that satisfies A,
  -- and are never all true in one that satisfies B": in every graph that a run reaches
  pub run_summarises : {k : ℕ} {st : State} → Run ts ls k st →
      (l : Literal) → Memᴰ l ls → l.kind ≡ Different → T (joined st.graph l.left l.right) →
      Summarises ts ls (table_of ts st) (standing (length (table_of ts st)) (summary ts ls (table_of ts st) st.graph l))
  -- 01: "of which the library's run is shown to be one", and it is carried to its end
  pub own_run_allowed : (st : State) → own_run ts ls ≡ Some st → (k : ℕ) × Run ts ls k st
  pub own_run_ended : (st : State) → own_run ts ls ≡ Some st → NoStepLeft ts ls st

-- all three demands of a call: what its contract says (`Called` of Call) gives them
pub record Demands (terms literals : List ℕ) (bs : Buffers) (r : Returned) : Type 1 where
  pub demand_1 : Demand1 terms literals bs r
  -- "Otherwise"
  pub demand_2 : ((n p : ℕ) → r.numbers ≡ numbers_of (Refused n p) → ⊥) →
      Demand2 (terms_of terms) (literals_of literals) bs r
  -- of tables that rows 1 to 6 do not refuse
  pub demand_3 : Accepted terms literals → Demand3 (terms_of terms) (literals_of literals)
  -- the same of the bytes that come back: the clauses read from the clause buffer, over the given terms and those read from the added buffer
  pub returned_summarises : (d a k : ℕ) → r.numbers ≡ numbers_of (Inconsistent d a k) →
      Summarises (terms_of terms) (literals_of literals)
      (terms_of (terms ++ take (16 * a) r.buffers.added)) (clauses_read k r.buffers.clauses)

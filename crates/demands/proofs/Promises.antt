-- The promises: the demands of specs/Demands.antt, proved of every call. docs/PROMISES.md goes through them sentence by sentence.
use Rattle.std.proofs.Common.{Option, Some, None}
use mathlib.Core.List.{List, ◌++◌, Memᴰ}
use mathlib.Core.Logic.{◌↔◌}
use mathlib.Core.Path.{◌≡◌, refl, sym, ap, ap₂, subst, subst₂, ◌∙◌}
use Prim.Native.Nat.{ℕ, ◌*◌, ◌≤◌, ◌<◌}
use native.Mathlib.Omega.{arith}
use lib.Dec.{T}
use lib.ListN.{length, take, drop, length-append, length-map}
use lib.Seq.{take_at}
use Rattle.tables.specs.Words.{First}
use Rattle.tables.specs.Bytes.{AllBytes}
use Rattle.tables.specs.Terms.{Term}
use Rattle.tables.specs.Parts.{LowerArguments}
use Rattle.tables.specs.TermTable.{terms_of}
use Rattle.tables.specs.LiteralTable.{literals_of}
use Rattle.tables.specs.declared.Literal.{Literal}
use Rattle.tables.specs.declared.Kind.TheVariants.{Different}
use Rattle.tables.specs.Colours.{is_in_use}
use Rattle.tables.specs.Rows.{Refuses, Accepted}
use Rattle.tables.specs.Checks.{Sound, checked}
use Rattle.tables.specs.Interpretations.{Satisfiable, FinitelySatisfiable}
use Rattle.tables.proofs.Colours.{SidesWithin, in_use_within}
use Rattle.tables.proofs.Words.{and_left, and_right, and_both}
use Rattle.tables.proofs.Rows.{sound_exactly}
use Rattle.tables.proofs.Sound.{sound, length_terms_of, lower_arguments, sides_within}
use Rattle.closure.specs.Graph.{joined}
use Rattle.closure.specs.Steps.{State, table_of, Run, NoStepLeft}
use Rattle.closure.proofs.Running.Runs.{run_sound}
use Rattle.closure.proofs.Running.OwnRun.{own_run_is}
use Rattle.closure.proofs.Running.FewSteps.{fewer_steps, few_added, own_run_complete}
use Rattle.closure.proofs.Entailing.AllRuns as runs
use Rattle.clauses.specs.Clauses.{Clause}
use Rattle.clauses.specs.Reading.{literal_at, critical, summary}
use Rattle.clauses.specs.Records.{standing}
use Rattle.clauses.specs.ReadBack.{clauses_read}
use Rattle.clauses.specs.Truth.{Summarises}
use Rattle.clauses.proofs.Interpolation.{summary_shared, summary_a, summary_b}
use Rattle.clauses.proofs.Order.{OneEach, standing_true, shared_standing}
use Rattle.clauses.proofs.OneClause.{summary_one_each, written_summarises}
use Rattle.clauses.proofs.Critical.{critical_found, critical_none}
use Rattle.demands.specs.declared.Answer.{Answer}
use Rattle.demands.specs.declared.Answer.TheVariants.{Consistent, Inconsistent, Refused}
use Rattle.demands.specs.declared.Numbers.{Numbers}
use Rattle.demands.specs.Answers.{numbers_of}
use Rattle.demands.specs.Buffers.{Buffers, Returned, class_number, term_bytes, written_over, class_at, LowestInClass}
use Rattle.demands.specs.Verdicts.{Verdict, records_in, answered}
use Rattle.demands.specs.Refusals.{rows_of}
use Rattle.demands.specs.Call.{judged, Called}
use Rattle.demands.specs.Demands.{Demand1, Classes, Demand2, Demand3, Demands}
use Rattle.demands.proofs.AddedTerms.{added_bytes, added_bytes_length, table_read}
use Rattle.demands.proofs.AddedFit.{added_fits}
use Rattle.demands.proofs.Partition.{of_class, class_lowest, class_idle, class_joined, partition_read}
use Rattle.demands.proofs.Ways.{Way, refused_way, answered_way, way, refusal_given, clause_bytes_of}

-- ---- what holds of tables whose arguments are lower and whose literals are over their terms, for every run

module _ (ts : List Term) (ls : List Literal) (lower : LowerArguments ts) (within : SidesWithin ts ls) where
  -- "the clauses read off the graph use only shared symbols, hold in every interpretation that satisfies A, and are never all true in one that
  -- satisfies B"
  run_summarises : {k : ℕ} {st : State} → Run ts ls k st → (l : Literal) → Memᴰ l ls → l.kind ≡ Different → T (joined st.graph l.left l.right) → Summarises ts ls (table_of ts st) (standing (length (table_of ts st)) (summary ts ls (table_of ts st) st.graph l))
  run_summarises {st = st} run l stands differ meet =
      let s = run_sound ts ls lower within run in
      let n = length (table_of ts st) in
      let table = table_of ts st in
      let cs = summary ts ls table st.graph l in
      let one : OneEach n cs = summary_one_each ts st.added ls s.lower within st.graph s.edges l stands differ meet in
      record {
        shared = shared_standing n cs ts ls table (summary_shared ts st.added ls s.lower within st.graph s.edges l stands differ meet);
        follows_from_a = λ I a. (standing_true n cs one I table).0 (summary_a ts st.added ls s.lower within st.graph s.edges l stands differ meet I a);
        contradicts_b = λ I b all. summary_b ts st.added ls s.lower within st.graph s.edges l stands differ meet I b ((standing_true n cs one I table).1 all);
      }

  pub demand_3 : Demand3 ts ls
  demand_3 =
      record {
        run_ends = λ run h. fewer_steps ts ls lower within run h;
        runs_agree = λ run done run' done'. runs.runs_agree ts ls lower within run done run' done';
        run_summarises = λ run. run_summarises run;
        own_run_allowed = own_run_is ts ls lower within;
        own_run_ended = own_run_complete ts ls lower within;
      }

  -- ---- a verdict

  module _ (st : State) {o : Option ℕ} (v : Verdict ts ls st o) where
    -- the run behind it
    run : Run ts ls (own_run_is ts ls lower within st v.last).0 st
    run = (own_run_is ts ls lower within st v.last).1

    ended : NoStepLeft ts ls st
    ended = own_run_complete ts ls lower within st v.last

  -- no critical disequality: some finite interpretation satisfies A and B
  apart_finite : (st : State) → Verdict ts ls st None → FinitelySatisfiable ts ls
  apart_finite st v = (runs.apart_finitely ts ls lower within (run st v) (ended st v)).0 (critical_none ls st.graph v.found)

  -- a critical disequality: none does
  critical_never : (st : State) (d : ℕ) → Verdict ts ls st (Some d) → Satisfiable ts ls → ⊥
  critical_never st d v s =
      let x = critical_found ls st.graph d v.found in
      (runs.apart_exact ts ls lower within (run st v) (ended st v)).1 s (literal_at ls d) x.stands x.differs x.meets

  -- what the partition holds where the answer is consistent: p is the partition at exit
  module _ (few : length ts ≤ 256) (st : State) (v : Verdict ts ls st None) (bs : Buffers) where
    p : List ℕ
    p = (answered ts ls bs st None).buffers.partition

    -- the class number that the call writes for a given term
    class : (t : ℕ) → t < length ts → class_at p t ≡ class_number ts ls st.graph t
    unfolding p
    class t h = partition_read ts ls st.graph bs.partition t few h

    used_in : (t : ℕ) → T (is_in_use ts ls t) → t < length ts
    used_in t h = in_use_within ts ls lower within t h

    -- two terms in use have one class number exactly when the run has joined them
    class_means : (u w : ℕ) → T (is_in_use ts ls u) → T (is_in_use ts ls w) → (class_at p u ≡ class_at p w) ↔ T (joined st.graph u w)
    class_means u w hu hw =
        let x = class_joined ts ls st.graph u w (used_in u hu) (used_in w hw) hu hw in
        (λ e. x.0 (sym (class u (used_in u hu)) ∙ e ∙ class w (used_in w hw)), λ j. class u (used_in u hu) ∙ x.1 j ∙ sym (class w (used_in w hw)))

    -- "the lowest number of a given term in its class": it is a given term in use of that class, and no lower one is
    lowest : (t : ℕ) → T (is_in_use ts ls t) → LowestInClass ts ls p t
    lowest t h =
        let c = class_at p t in
        let first = subst (First (λ u. T (of_class ts ls st.graph t u)) (length ts)) (sym (class t (used_in t h))) (class_lowest ts ls st.graph t (used_in t h) h) in
        let used = and_left (is_in_use ts ls c) (joined st.graph c t) first.such in
        record {
          in_use = used;
          in_class = (class_means c t used h).1 (and_right (is_in_use ts ls c) (joined st.graph c t) first.such);
          none_lower = λ u l hu e. first.none_before u l (and_both (is_in_use ts ls u) (joined st.graph u t) hu ((class_means u t hu h).0 e));
        }

    classes_held : Classes ts ls (answered ts ls bs st None).buffers.partition
    unfolding p
    classes_held =
        record {
          classes_exactly = λ u w hu hw. let x = runs.joined_entailed ts ls lower within (run st v) (ended st v) u w hu hw in let y = class_means u w hu hw in (λ e. x.0 (y.0 e), λ z. y.1 (x.1 z));
          classes_finitely = λ u w hu hw. let x = runs.joined_finitely ts ls lower within (run st v) (ended st v) u w hu hw in let y = class_means u w hu hw in (λ e. x.0 (y.0 e), λ z. y.1 (x.1 z));
          class_is_lowest = lowest;
          idle_class = λ t h i. class t h ∙ class_idle ts ls st.graph t i;
        }

-- ---- numbers of different answers differ, and those of one answer are its own

consistent_refused : {n p : ℕ} → numbers_of Consistent ≡ numbers_of (Refused n p) → ⊥
consistent_refused e = let z : ◌≡◌ {A = ℕ} 0 2 = ap (λ (x : Numbers). x.verdict) e in omega arith

inconsistent_refused : {d a k n p : ℕ} → numbers_of (Inconsistent d a k) ≡ numbers_of (Refused n p) → ⊥
inconsistent_refused e = let z : ◌≡◌ {A = ℕ} 1 2 = ap (λ (x : Numbers). x.verdict) e in omega arith

consistent_inconsistent : {d a k : ℕ} → numbers_of Consistent ≡ numbers_of (Inconsistent d a k) → ⊥
consistent_inconsistent e = let z : ◌≡◌ {A = ℕ} 0 1 = ap (λ (x : Numbers). x.verdict) e in omega arith

-- So the numbers tell the answer: a contract that settles them settles it.
pub one_answer : (x y : Answer) → numbers_of x ≡ numbers_of y → x ≡ y
one_answer Consistent Consistent e = refl
one_answer Consistent (Inconsistent d a k) e = absurd (consistent_inconsistent e)
one_answer Consistent (Refused n p) e = absurd (consistent_refused e)
one_answer (Inconsistent d a k) Consistent e = absurd (consistent_inconsistent (sym e))
one_answer (Inconsistent d a k) (Inconsistent d' a' k') e = λ i. Inconsistent (e i).disequality (e i).added (e i).records
one_answer (Inconsistent d a k) (Refused n p) e = absurd (inconsistent_refused e)
one_answer (Refused n p) Consistent e = absurd (consistent_refused (sym e))
one_answer (Refused n p) (Inconsistent d a k) e = absurd (inconsistent_refused (sym e))
one_answer (Refused n p) (Refused m q) e = λ i. Refused (e i).number (e i).place

-- an answer is no refusal
answered_refused : (ts : List Term) (ls : List Literal) (bs : Buffers) (st : State) (o : Option ℕ) {n p : ℕ} → (answered ts ls bs st o).numbers ≡ numbers_of (Refused n p) → ⊥
answered_refused ts ls bs st None e = consistent_refused e
answered_refused ts ls bs st (Some d) e = inconsistent_refused e

-- ---- a call on any bytes

module _ (terms literals : List ℕ) (bs : Buffers) where
  abbrev ts : List Term
  ts = terms_of terms

  abbrev ls : List Literal
  ls = literals_of literals

  -- "A refusal has the number and place of document 01, comes only where 01 says, and changes no output byte."
  demand_1 : {r : Returned} → Way terms literals bs r → r ≡ judged terms literals bs → Demand1 terms literals bs r
  demand_1 {r} (refused_way m q x e) same =
      record {
        refusal_exactly = λ n p. (
          λ z. let one : numbers_of (Refused m q) ≡ numbers_of (Refused n p) = sym (ap (λ (y : Returned). y.numbers) e) ∙ z in
              subst₂ (Refuses (rows_of terms literals bs)) (ap (λ (y : Numbers). y.number) one) (ap (λ (y : Numbers). y.place) one) x,
          λ z. ap (λ (y : Returned). y.numbers) (same ∙ refusal_given terms literals bs n p z),
        );
        refused_changes_nothing = λ n p z. ap (λ (y : Returned). y.buffers) e;
      }
  demand_1 {r} (answered_way st o good v e) same =
      let never : (n p : ℕ) → r.numbers ≡ numbers_of (Refused n p) → ⊥ = λ n p z. answered_refused ts ls bs st o (sym (ap (λ (y : Returned). y.numbers) e) ∙ z) in
      record {
        refusal_exactly = λ n p. (λ z. absurd (never n p z), λ z. ap (λ (y : Returned). y.numbers) (same ∙ refusal_given terms literals bs n p z));
        refused_changes_nothing = λ n p z. absurd (never n p z);
      }

  module _ (good : checked terms literals ≡ Sound) where
    lower : LowerArguments (terms_of terms)
    lower = lower_arguments terms literals (sound terms literals good)

    within : SidesWithin (terms_of terms) (literals_of literals)
    within = sides_within terms literals (sound terms literals good)

    few : length (terms_of terms) ≤ 256
    few = subst (λ (n : ℕ). n ≤ 256) (sym (length_terms_of terms)) (sound terms literals good).terms_fit

    -- of a call that is not refused
    demand_2 : (st : State) (o : Option ℕ) → Verdict ts ls st o → Demand2 ts ls bs (answered ts ls bs st o)
    demand_2 st None v =
        record {
          consistent_exactly = (λ e. apart_finite ts ls lower within st v, λ s. refl);
          inconsistent_unsatisfiable = λ d a k e. absurd (consistent_inconsistent e);
          classes = λ e. classes_held ts ls lower within few st v bs;
          bytes = (st, None, v, refl);
        }
    demand_2 st (Some d) v =
        let never : Satisfiable ts ls → ⊥ = critical_never ts ls lower within st d v in
        record {
          consistent_exactly = (λ e. absurd (consistent_inconsistent (sym e)), λ s. absurd (never (s.0, s.2, s.3)));
          inconsistent_unsatisfiable = λ x a k e. never;
          classes = λ e. absurd (consistent_inconsistent (sym e));
          bytes = (st, Some d, v, refl);
        }

    -- demand 3 on the bytes that come back
    returned_summarises : AllBytes terms → (st : State) (d : ℕ) → Verdict ts ls st (Some d) → (a k : ℕ) → a ≡ length st.added → k ≡ length (records_in ts ls st (literal_at ls d)) → Summarises ts ls (terms_of (terms ++ take (16 * a) (answered ts ls bs st (Some d)).buffers.added)) (clauses_read k (answered ts ls bs st (Some d)).buffers.clauses)
    unfolding written_over records_in
    returned_summarises all-bytes st d v a k added_count record-count =
        let r = run ts ls lower within st v in
        let s = run_sound ts ls lower within r in
        let x = critical_found ls st.graph d v.found in
        let many : length (table_of ts st) ≤ 511 = omega (arith, length-append ts st.added, few, few_added ts ls lower within few r) in
        let rest = drop (length (clause_bytes_of ts ls st d)) bs.clauses in
        let written = written_summarises ts st.added ls s.lower within st.graph s.edges (literal_at ls d) x.stands x.differs x.meets many rest in
        let taken : take (16 * a) (answered ts ls bs st (Some d)).buffers.added ≡ added_bytes st.added = take_at (added_bytes st.added) (drop (length (added_bytes st.added)) bs.added) (16 * a) (added_bytes_length st.added ∙ ap (λ (n : ℕ). 16 * n) (sym added_count)) in
        let table : terms_of (terms ++ take (16 * a) (answered ts ls bs st (Some d)).buffers.added) ≡ table_of ts st = ap (λ (l : List ℕ). terms_of (terms ++ l)) taken ∙ table_read terms st.added (sound terms literals good).terms_whole (λ m stands. added_fits terms literals (sound terms literals good) all-bytes r m stands) in
        let clauses : clauses_read k (answered ts ls bs st (Some d)).buffers.clauses ≡ clauses_read (length (records_in ts ls st (literal_at ls d))) (clause_bytes_of ts ls st d ++ rest) = ap (λ (n : ℕ). clauses_read n (clause_bytes_of ts ls st d ++ rest)) record-count in
        subst₂ (λ (t : List Term) (cs : List Clause). Summarises ts ls t cs) (sym table) (sym clauses) written

    -- of an answer
    returned : AllBytes terms → (st : State) (o : Option ℕ) → Verdict ts ls st o → (d a k : ℕ) → (answered ts ls bs st o).numbers ≡ numbers_of (Inconsistent d a k) → Summarises ts ls (terms_of (terms ++ take (16 * a) (answered ts ls bs st o).buffers.added)) (clauses_read k (answered ts ls bs st o).buffers.clauses)
    returned all-bytes st None v d a k e = absurd (consistent_inconsistent e)
    returned all-bytes st (Some x) v d a k e =
        returned_summarises all-bytes st x v a k
        (sym (ap (λ (y : Numbers). y.added) e) ∙ length-map st.added term_bytes)
        (sym (ap (λ (y : Numbers). y.records) e))

  -- the demands, by the way that the call went
  demanded : AllBytes terms → {r : Returned} → Way terms literals bs r → r ≡ judged terms literals bs → Demands terms literals bs r
  demanded all-bytes {r} w same = go w
    where
      third : Accepted terms literals → Demand3 ts ls
      third a = let good = (sound_exactly terms literals).1 a in demand_3 ts ls (lower good) (within good)

      go : Way terms literals bs r → Demands terms literals bs r
      go (refused_way n p x e) =
          record {
            demand_1 = demand_1 (refused_way n p x e) same;
            demand_2 = λ not-refused. absurd (not-refused n p (ap (λ (y : Returned). y.numbers) e));
            demand_3 = third;
            returned_summarises = λ d a k z. absurd (inconsistent_refused (sym z ∙ ap (λ (y : Returned). y.numbers) e));
          }
      go (answered_way st o good v e) =
          record {
            demand_1 = demand_1 (answered_way st o good v e) same;
            demand_2 = λ not-refused. subst (Demand2 ts ls bs) (sym e) (demand_2 good st o v);
            demand_3 = third;
            returned_summarises = λ d a k z. subst (λ (y : Returned). Summarises ts ls (terms_of (terms ++ take (16 * a) y.buffers.added)) (clauses_read k y.buffers.clauses)) (sym e) (returned good all-bytes st o v d a k (sym (ap (λ (y : Returned). y.numbers) e) ∙ z));
          }

-- ---- the promise

-- Every call keeps the three demands. The contracts of `split` and of `anahruyk_split` say `Called` of what they return and of the buffers that they
-- are lent, for all inputs.
pub promised : (terms literals : List ℕ) (bs : Buffers) (r : Returned) → Called terms literals bs r → Demands terms literals bs r
promised terms literals bs r c = demanded terms literals bs c.terms_are_bytes (subst (Way terms literals bs) (sym c.returned) (way terms literals bs)) c.returned

-- The demands settle all that comes back: the numbers, and every byte of the buffers. So a reader of them need not read `judged`.
pub settled : (terms literals : List ℕ) (bs : Buffers) (r : Returned) → Demands terms literals bs r → r ≡ judged terms literals bs
settled terms literals bs r x = go (way terms literals bs)
  where
    both : {y : Returned} → r.numbers ≡ y.numbers → r.buffers ≡ y.buffers → r ≡ y
    both e f = λ i. record { numbers = e i; buffers = f i }

    go : Way terms literals bs (judged terms literals bs) → r ≡ judged terms literals bs
    go (refused_way n p z e) =
        let named = (x.demand_1.refusal_exactly n p).1 z in
        both named (x.demand_1.refused_changes_nothing n p named) ∙ sym e
    go (answered_way st o good v e) =
        let ts = terms_of terms in
        let ls = literals_of literals in
        let never : (n p : ℕ) → r.numbers ≡ numbers_of (Refused n p) → ⊥ = λ n p z. answered_refused ts ls bs st o (ap (λ (y : Returned). y.numbers) (sym e ∙ refusal_given terms literals bs n p ((x.demand_1.refusal_exactly n p).0 z))) in
        let b = (x.demand_2 never).bytes in
        let same-state : b.0 ≡ st = one_some (sym b.2.last ∙ v.last) in
        let same_end : b.1 ≡ o = sym b.2.found ∙ ap (λ (s : State). critical ls s.graph) same-state ∙ v.found in
        b.3 ∙ ap₂ (answered ts ls bs) same-state same_end ∙ sym e
      where
        one_some : {s t : State} → Some s ≡ Some t → s ≡ t
        one_some q = cc

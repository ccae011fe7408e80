-- The ways in which a call comes back: refused by a row, or answered by one of the two verdicts. There is no other.
use Rattle.std.proofs.Common.{Option, Some, None, Err}
use mathlib.Core.Bool.{Bool, true, false, cond}
use mathlib.Core.List.{List, [], ◌∷◌, map, flat_map}
use mathlib.Core.Logic.{⊎_elim}
use mathlib.Core.Path.{◌≡◌, refl, sym, ap, ap₂, subst, ◌∙◌}
use Prim.Native.Nat.{ℕ, ◌*◌, ◌≤◌, ◌<◌}
use native.Mathlib.Omega.{arith}
use lib.Dec.{ltb, lt→ltb, ltb→lt, not_T}
use lib.ListN.{length}
use Rattle.tables.specs.Terms.{Term}
use Rattle.tables.specs.TermTable.{terms_of}
use Rattle.tables.specs.LiteralTable.{literals_of}
use Rattle.tables.specs.declared.Literal.{Literal}
use Rattle.tables.specs.Rows.{row, Refuses, table_rows}
use Rattle.tables.specs.Checks.{Sound, checked, number_of, place_in}
use Rattle.tables.specs.declared.Refusal.{Refusal}
use Rattle.tables.proofs.Words.{by_test, passes, fails, passed, failed}
use Rattle.tables.proofs.Rows.{sound_or_refused, checked_says, sound_exactly, refuses_early, refuses_last, refuses_either}
use Rattle.tables.proofs.Sound.{sound, lower_arguments, sides_within}
use Rattle.closure.specs.Steps.{State, table_of}
use Rattle.closure.specs.OwnRun.{own_run}
use Rattle.closure.proofs.Running.OwnRun.{own_run_never_stuck}
use Rattle.clauses.specs.Reading.{literal_at, critical, summary, read_between}
use Rattle.clauses.specs.Records.{clause_records}
use Rattle.clauses.proofs.Records.{clause_bytes_length}
use Rattle.clauses.proofs.Pieces.{summary_read}
use Rattle.demands.specs.Buffers.{Buffers, Returned, partition_bytes, term_bytes}
use Rattle.demands.specs.Verdicts.{Verdict, records_in, answered}
use Rattle.demands.specs.Refusals.{Short, partition_short, added_short, clauses_short, rows_of}
use Rattle.demands.specs.Call.{refused, too_short, consistent, inconsistent, verdict, ended, after_checks, judged}
use Rattle.demands.proofs.AddedTerms.{added_bytes_length}
use Rattle.demands.proofs.Partition.{partition_length}

-- the bytes that an inconsistent answer writes
abbrev pub added_bytes_of : State → List ℕ
added_bytes_of st = flat_map (λ r. r) (map term_bytes st.added)

abbrev pub clause_bytes_of : List Term → List Literal → State → ℕ → List ℕ
clause_bytes_of ts ls st d = flat_map (λ r. r) (records_in ts ls st (literal_at ls d))

-- eight bytes for each clause record
pub clauses_length : (ts : List Term) (ls : List Literal) (st : State) (d : ℕ) → length (clause_bytes_of ts ls st d) ≡ 8 * length (records_in ts ls st (literal_at ls d))
unfolding records_in
clauses_length ts ls st d = clause_bytes_length (length (table_of ts st)) (summary ts ls (table_of ts st) st.graph (literal_at ls d))

-- the clause records of a disequality are those of the clauses read between its sides
pub records_read : (ts : List Term) (ls : List Literal) (st : State) (l : Literal) → records_in ts ls st l ≡ clause_records (length (table_of ts st)) (read_between ts ls (table_of ts st) st.graph l.side l.left l.right)
unfolding records_in
records_read ts ls st l = ap (clause_records (length (table_of ts st))) (summary_read ts ls (table_of ts st) st.graph l)

-- ---- room

-- the test of a buffer, where so many bytes are to be written
module _ (bytes buffer : List ℕ) (n : ℕ) (e : length bytes ≡ n) where
  short_passes : length buffer < n → too_short bytes buffer ≡ true
  unfolding too_short
  short_passes h = passed (ltb (length buffer) (length bytes)) (lt→ltb (length buffer) (length bytes) (omega (arith, e)))

  room_fails : n ≤ length buffer → too_short bytes buffer ≡ false
  unfolding too_short
  room_fails h = failed (ltb (length buffer) (length bytes)) (not_T (ltb (length buffer) (length bytes)) (λ w. omega (arith, e, ltb→lt (length buffer) (length bytes) w)))

  -- it is short, or it has room
  by_room : {C : Type 0} → (too_short bytes buffer ≡ true → length buffer < n → C) → (too_short bytes buffer ≡ false → n ≤ length buffer → C) → C
  unfolding too_short
  by_room f g =
      by_test (ltb (length buffer) (length bytes))
      (λ s. f s (omega (arith, e, ltb→lt (length buffer) (length bytes) (passes (ltb (length buffer) (length bytes)) s))))
      (λ s. g s (omega (arith, e, lib.Dec.nltb→le (length buffer) (length bytes) (fails (ltb (length buffer) (length bytes)) s))))

-- ---- the call

-- how the call came to what it returns
pub data Way (terms literals : List ℕ) (bs : Buffers) (r : Returned) : Type 0 where
  refused_way : (n p : ℕ) → Refuses (rows_of terms literals bs) n p → r ≡ refused bs n p → Way terms literals bs r
  answered_way : (st : State) (o : Option ℕ) → checked terms literals ≡ Sound → Verdict (terms_of terms) (literals_of literals) st o → r ≡ answered (terms_of terms) (literals_of literals) bs st o → Way terms literals bs r

module _ (terms literals : List ℕ) (bs : Buffers) where
  abbrev ts : List Term
  ts = terms_of terms

  abbrev ls : List Literal
  ls = literals_of literals

  -- a refused table comes back as rows 1 to 6 say
  pub judged_refused : (r : Refusal) → checked terms literals ≡ Err r → judged terms literals bs ≡ refused bs (number_of r) (place_in r)
  unfolding judged after_checks
  judged_refused r e = rw e refl

  -- a sound table goes on to the run
  pub judged_ended : checked terms literals ≡ Sound → judged terms literals bs ≡ ended bs (terms_of terms) (literals_of literals) (own_run (terms_of terms) (literals_of literals))
  unfolding judged after_checks
  judged_ended e = rw e refl

  module _ (good : checked terms literals ≡ Sound) where
    -- and, since no run is stuck, to the verdict
    judged_verdict : {st : State} {o : Option ℕ} → Verdict ts ls st o → judged terms literals bs ≡ verdict bs ts ls st o
    unfolding ended
    judged_verdict {st} v = judged_ended good ∙ ap (ended bs ts ls) v.last ∙ ap (verdict bs ts ls st) v.found

    -- a consistent verdict, by the test of the partition's room
    by_partition : {st : State} {b : Bool} → Verdict ts ls st None → too_short (partition_bytes ts ls st.graph) bs.partition ≡ b → judged terms literals bs ≡ cond b (refused bs 7 0) (answered ts ls bs st None)
    unfolding verdict consistent
    by_partition {st} v s = judged_verdict v ∙ ap (λ (b : Bool). cond b (refused bs 7 0) (answered ts ls bs st None)) s

    -- an inconsistent one, by the tests of the two other buffers
    by_added : {st : State} {d : ℕ} {b : Bool} → Verdict ts ls st (Some d) → too_short (added_bytes_of st) bs.added ≡ b → judged terms literals bs ≡ cond b (refused bs 7 1) (cond (too_short (clause_bytes_of ts ls st d) bs.clauses) (refused bs 7 2) (answered ts ls bs st (Some d)))
    unfolding verdict inconsistent
    by_added {st} {d} v s = judged_verdict v ∙ ap (λ (b : Bool). cond b (refused bs 7 1) (cond (too_short (clause_bytes_of ts ls st d) bs.clauses) (refused bs 7 2) (answered ts ls bs st (Some d)))) s

    by_both : {st : State} {d : ℕ} {b : Bool} → Verdict ts ls st (Some d) → too_short (added_bytes_of st) bs.added ≡ false → too_short (clause_bytes_of ts ls st d) bs.clauses ≡ b → judged terms literals bs ≡ cond b (refused bs 7 2) (answered ts ls bs st (Some d))
    by_both {st} {d} v s z = by_added v s ∙ ap (λ (b : Bool). cond b (refused bs 7 2) (answered ts ls bs st (Some d))) z

    -- row 7 refuses, where rows 1 to 6 do not
    seven : (p : ℕ) → Short ts ls bs p → Way terms literals bs (refused bs 7 p)
    seven p s = refused_way 7 p (refuses_last (table_rows terms literals) (row 7 (Short ts ls bs)) p ((sound_exactly terms literals).0 good) s) refl

    -- what the call returns, for each verdict
    verdict_way : (st : State) (o : Option ℕ) → Verdict ts ls st o → Way terms literals bs (judged terms literals bs)
    verdict_way st None v =
        by_room (partition_bytes ts ls st.graph) bs.partition (2 * length ts) (partition_length ts ls st.graph)
        (λ s h. subst (Way terms literals bs) (sym (by_partition v s)) (seven 0 (partition_short st v h refl)))
        (λ s h. answered_way st None good v (by_partition v s))
    verdict_way st (Some d) v =
        by_room (added_bytes_of st) bs.added (16 * length st.added) (added_bytes_length st.added)
        (λ s h. subst (Way terms literals bs) (sym (by_added v s)) (seven 1 (added_short st d v h refl)))
        (λ s h. by_room (clause_bytes_of ts ls st d) bs.clauses (8 * length (records_in ts ls st (literal_at ls d))) (clauses_length ts ls st d)
        (λ z k. subst (Way terms literals bs) (sym (by_both v s z)) (seven 2 (clauses_short st d v h k refl)))
        (λ z k. answered_way st (Some d) good v (by_both v s z)))

    -- where row 7 refuses, the call does
    short_given : (p : ℕ) → Short ts ls bs p → judged terms literals bs ≡ refused bs 7 p
    short_given p (partition_short st v h e) =
        by_partition v (short_passes (partition_bytes ts ls st.graph) bs.partition (2 * length ts) (partition_length ts ls st.graph) h) ∙ ap (refused bs 7) (sym e)
    short_given p (added_short st d v h e) =
        by_added v (short_passes (added_bytes_of st) bs.added (16 * length st.added) (added_bytes_length st.added) h) ∙ ap (refused bs 7) (sym e)
    short_given p (clauses_short st d v g h e) =
        by_both v (room_fails (added_bytes_of st) bs.added (16 * length st.added) (added_bytes_length st.added) g)
        (short_passes (clause_bytes_of ts ls st d) bs.clauses (8 * length (records_in ts ls st (literal_at ls d))) (clauses_length ts ls st d) h) ∙
        ap (refused bs 7) (sym e)

  -- the way that the call went
  pub way : Way terms literals bs (judged terms literals bs)
  way = ⊎_elim run (λ w. refused_way (number_of w.0) (place_in w.0) (refuses_early (table_rows terms literals) (row 7 (Short ts ls bs) ∷ []) _ _ ((checked_says terms literals).found w.0 w.1)) (judged_refused w.0 w.1)) (sound_or_refused (checked terms literals))
    where
      run : checked terms literals ≡ Sound → Way terms literals bs (judged terms literals bs)
      run e = go (own_run ts ls) refl
        where
          go : (o : Option State) → own_run ts ls ≡ o → Way terms literals bs (judged terms literals bs)
          go None q = absurd (own_run_never_stuck ts ls (lower_arguments terms literals (sound terms literals e)) (sides_within terms literals (sound terms literals e)) q)
          go (Some st) q = verdict_way e st (critical ls st.graph) (record { last = q; found = refl })

  -- where a row refuses, the call does
  pub refusal_given : (n p : ℕ) → Refuses (rows_of terms literals bs) n p → judged terms literals bs ≡ refused bs n p
  refusal_given n p x = ⊎_elim
      (λ y. let s = (checked_says terms literals).given n p y in judged_refused s.0 s.1 ∙ ap₂ (refused bs) (sym s.2) (sym s.3))
      (λ y. short_given ((sound_exactly terms literals).1 y.0) p y.2 ∙ ap (λ (m : ℕ). refused bs m p) (sym y.1))
      (refuses_either (table_rows terms literals) (row 7 (Short ts ls bs)) n p x)

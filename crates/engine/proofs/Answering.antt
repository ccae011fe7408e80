-- Room and the bytes of a verdict: what the code compares is what the definitions compare, and what it writes is what they write.
use mathlib.Core.Bool.{Bool, true, false, cond}
use mathlib.Core.List.{List, map, flat_map}
use mathlib.Core.Path.{◌≡◌, refl, sym, ap, ap₂, ◌∙◌}
use Prim.Native.Nat.{ℕ, ◌*◌, ◌-◌, ◌/◌, ◌≤◌, ◌<◌}
use native.Mathlib.Omega.{arith}
use borrow.Author.Tests.{lt-ltb, le-ltb}
use lib.ListN.{length, length-map}
use Rattle.tables.specs.Bytes.{word_bytes}
use Rattle.tables.specs.Terms.{Term}
use Rattle.tables.specs.declared.Tables.{Tables}
use Rattle.running.specs.declared.state.State.{State as Arrays}
use Rattle.demands.specs.declared.Answer.TheVariants.{Consistent, Inconsistent}
use Rattle.demands.specs.Buffers.{term_bytes, written_over, Buffers, Returned}
use Rattle.demands.specs.Answers.{numbers_of}
use Rattle.demands.specs.Call.{refused, too_short, consistent, inconsistent}
use Rattle.engine.specs.Ending.{Decides, terms_in, literals_in, records_for, class_by, class_bytes, records_bytes}
use Rattle.demands.proofs.AddedTerms.{added_bytes, added_bytes_length}
use Rattle.demands.proofs.Ways.{clauses_length}
use Rattle.engine.proofs.Writing.{length_first}
use Rattle.engine.proofs.AddedRecords.{all_terms, records_are}

-- a buffer that is shorter than the bytes, and one that is not
short : (bytes buffer : List ℕ) → length buffer < length bytes → too_short bytes buffer ≡ true
unfolding too_short
short bytes buffer h = lt-ltb (length buffer) (length bytes) h

room : (bytes buffer : List ℕ) → length bytes ≤ length buffer → too_short bytes buffer ≡ false
unfolding too_short
room bytes buffer h = le-ltb (length buffer) (length bytes) h

module _ (used : List Bool) (labels : List ℕ) (n : ℕ) (bs : Buffers) where
  abbrev classes : List ℕ
  classes = class_bytes used labels n

  -- the bytes of the partition
  classes_length : length classes ≡ 2 * n
  classes_length = length_first 2 (λ k. word_bytes (class_by used labels n k)) (λ k. refl) n

  -- a consistent verdict returns this where there is room
  abbrev with_classes : List ℕ → Returned
  with_classes out = record { numbers = numbers_of Consistent; buffers = record { partition = out; added = bs.added; clauses = bs.clauses } }

  -- the partition has no room
  pub consistent_short : length bs.partition < 2 * n → refused bs 7 0 ≡ consistent bs classes
  unfolding consistent
  consistent_short h =
      sym (ap (λ (b : Bool). cond b (refused bs 7 0) (with_classes (written_over classes bs.partition))) (short classes bs.partition (omega (arith, classes_length))))

  -- it has room, and is written
  pub consistent_room : 2 * n ≤ length bs.partition → (out : List ℕ) → out ≡ written_over classes bs.partition → with_classes out ≡ consistent bs classes
  unfolding consistent
  consistent_room h out e =
      ap with_classes e ∙
      sym (ap (λ (b : Bool). cond b (refused bs 7 0) (with_classes (written_over classes bs.partition))) (room classes bs.partition (omega (arith, classes_length))))

module _ (t : Tables) (s : Arrays) (d : ℕ) (w : Decides t s d) (bs : Buffers) where
  abbrev ms : List Term
  ms = w.ends.state.added

  abbrev terms : List ℕ
  terms = added_bytes ms

  abbrev clauses : List ℕ
  clauses = flat_map (λ r. r) (records_for w)

  -- as many terms are added as the arrays have behind the given ones
  added_count : s.terms - t.terms ≡ length ms
  added_count = omega (arith, all_terms t s w.ends)

  terms_length : length terms ≡ 16 * (s.terms - t.terms)
  terms_length = added_bytes_length ms ∙ ap (λ (n : ℕ). 16 * n) (sym added_count)

  records_length : length clauses ≡ 8 * length (records_for w)
  records_length = clauses_length (terms_in w.ends.from) (literals_in w.ends.from) w.ends.state d

  -- an inconsistent verdict returns this where there is room
  abbrev with_both : ℕ → ℕ → List ℕ → List ℕ → Returned
  with_both added count out-added out-clauses = record { numbers = numbers_of (Inconsistent d added count); buffers = record { partition = bs.partition; added = out-added; clauses = out-clauses } }

  abbrev answered : Returned
  answered = with_both (length (map term_bytes ms)) (length (records_for w)) (written_over terms bs.added) (written_over clauses bs.clauses)

  -- by the two tests
  abbrev tested : Bool → Bool → Returned
  tested a b = cond a (refused bs 7 1) (cond b (refused bs 7 2) answered)

  -- the added terms have no room
  pub added_short : length bs.added < 16 * (s.terms - t.terms) → refused bs 7 1 ≡ inconsistent bs d (map term_bytes ms) (records_for w)
  unfolding inconsistent
  added_short h = sym (ap (λ (a : Bool). tested a (too_short clauses bs.clauses)) (short terms bs.added (omega (arith, terms_length))))

  -- they have, and the clause records have none, and stay as they are
  pub clauses_short : 16 * (s.terms - t.terms) ≤ length bs.added → (count : ℕ) → count ≡ length (records_for w) → length bs.clauses / 8 < count → (out : List ℕ) → out ≡ bs.clauses → refused (record { partition = bs.partition; added = bs.added; clauses = out }) 7 2 ≡ inconsistent bs d (map term_bytes ms) (records_for w)
  unfolding inconsistent
  clauses_short g count e h out kept =
      ap (λ (x : List ℕ). refused (record { partition = bs.partition; added = bs.added; clauses = x }) 7 2) kept ∙
      sym (ap₂ tested (room terms bs.added (omega (arith, terms_length))) (short clauses bs.clauses (omega (arith, records_length))))

  -- both have room, and are written
  pub both_room : 16 * (s.terms - t.terms) ≤ length bs.added → (count : ℕ) → count ≡ length (records_for w) → count ≤ length bs.clauses / 8 → (out-added out-clauses : List ℕ) → out-added ≡ written_over (records_bytes t.terms s) bs.added → out-clauses ≡ written_over clauses bs.clauses → with_both (s.terms - t.terms) count out-added out-clauses ≡ inconsistent bs d (map term_bytes ms) (records_for w)
  unfolding inconsistent
  both_room g count e h out-added out-clauses p q =
      let added : s.terms - t.terms ≡ length (map term_bytes ms) = added_count ∙ sym (length-map ms term_bytes) in
      let written : out-added ≡ written_over terms bs.added = p ∙ ap (λ (bytes : List ℕ). written_over bytes bs.added) (records_are t s w.ends) in
      (λ i. with_both (added i) (e i) (written i) (q i)) ∙
      sym (ap₂ tested (room terms bs.added (omega (arith, terms_length))) (room clauses bs.clauses (omega (arith, records_length))))

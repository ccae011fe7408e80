-- The records of the added terms, by the arrays of the run's last state.
use mathlib.Core.List.{List, map, flat_map, map-map}
use mathlib.Core.Path.{◌≡◌, sym, ap, ◌∙◌}
use Prim.Native.Nat.{ℕ, ◌+◌, ◌-◌, ◌≤◌, ◌<◌}
use native.Mathlib.Omega.{arith}
use lib.ListN.{length, length-append}
use lib.Seq.{get_or-append-add}
use Rattle.tables.specs.Words.{below}
use Rattle.tables.specs.Terms.{Term, no_term, term_at}
use Rattle.tables.specs.declared.Tables.{Tables}
use Rattle.tables.proofs.Words.{below_mem, flat_map_agree}
use Rattle.tables.proofs.WordBytes.{get_d_below}
use Rattle.closure.specs.Steps.{table_of}
use Rattle.running.specs.Shown.{padded}
use Rattle.running.specs.declared.state.State.{State as Arrays}
use Rattle.running.proofs.Arrays.{padded_at}
use Rattle.running.proofs.Showing.{shown_symbol, shown_arity, shown_row}
use Rattle.demands.specs.Buffers.{term_bytes}
use Rattle.engine.specs.Ending.{Ends, terms_in, literals_in, record_bytes, record_in, records_bytes}
use Rattle.demands.proofs.AddedTerms.{added_bytes, laid, term_bytes_laid}
use Rattle.demands.proofs.Partition.{flat_map_of_map}
use Rattle.engine.proofs.Searches.{count_is}

-- a record laid out by its fields is the term's
record_term : (m : Term) → record_bytes m.symbol (length m.arguments) (padded m.arguments) ≡ term_bytes m
unfolding record_bytes laid
record_term m =
    (λ i. laid m.symbol (length m.arguments) (padded_at m.arguments 0 i) (padded_at m.arguments 1 i) (padded_at m.arguments 2 i) (padded_at m.arguments 3 i)) ∙
    sym (term_bytes_laid m)

module _ (t : Tables) (s : Arrays) (w : Ends t s) where
  abbrev ts : List Term
  ts = terms_in w.from

  abbrev ms : List Term
  ms = w.state.added

  abbrev table : List Term
  table = table_of ts w.state

  -- the given terms and the added ones
  pub all_terms : s.terms ≡ t.terms + length ms
  all_terms = w.shows.terms ∙ length-append ts ms ∙ ap (λ (n : ℕ). n + length ms) (sym (count_is t s w))

  -- fit the arrays
  pub all_fit : s.terms ≤ 511
  all_fit = omega (arith, w.shows.terms, w.shows.within)

  -- an added term stands behind the given ones
  added_at : (k : ℕ) → term_at table (t.terms + k) ≡ term_at ms k
  added_at k = ap (λ (n : ℕ). term_at table (n + k)) (count_is t s w) ∙ get_or-append-add ts ms k no_term

  -- so its record is there
  record_is : (k : ℕ) → k < length ms → record_in t.terms s k ≡ term_bytes (term_at ms k)
  record_is k h =
      let v = t.terms + k in
      let l : v < length table = omega (arith, length-append ts ms, count_is t s w) in
      let symbol = shown_symbol ts (literals_in w.from) w.state s w.shows v l in
      let arity = shown_arity ts (literals_in w.from) w.state s w.shows v l in
      let row = shown_row ts (literals_in w.from) w.state s w.shows v l in
      (λ i. record_bytes (symbol i) (arity i) (row i)) ∙ record_term (term_at table v) ∙ ap term_bytes (added_at k)

  -- and all records are the bytes of the added terms
  pub records_are : records_bytes t.terms s ≡ added_bytes ms
  records_are =
      let count : s.terms - t.terms ≡ length ms = omega (arith, all_terms) in
      let named : ℕ → List ℕ = λ k. term_bytes (term_at ms k) in
      ap (λ (n : ℕ). flat_map (record_in t.terms s) (below n)) count ∙
      flat_map_agree (record_in t.terms s) named (below (length ms)) (λ k m. record_is k (below_mem (length ms) m)) ∙
      flat_map_of_map named (below (length ms)) ∙
      ap (flat_map (λ r. r)) (sym (map-map term_bytes (term_at ms) (below (length ms))) ∙ ap (map term_bytes) (get_d_below no_term ms))

-- What rows 4 and 5 find in the columns and the keys is what they look for in the records.
use mathlib.Core.Bool.{Bool, false, not, ◌&&◌}
use mathlib.Core.List.{List}
use mathlib.Core.Path.{◌≡◌, ap, ap₂, sym, subst, ◌∙◌}
use Prim.Native.Nat.{ℕ, ◌≤◌, ◌<◌}
use native.Mathlib.Omega.{arith}
use lib.Dec.{T, eqb, not_T}
use lib.ListN.{get_or}
use Rattle.tables.specs.Tests.{some_below, other_arity, had_other_arity, equal_records, equals_earlier}
use Rattle.tables.specs.TermTable.{term_count, term_record, symbol_field, arity_field}
use Rattle.tables.specs.Read.{filled}
use Rattle.reading.specs.Keys.{other_arity_in, record_key, record_keys, same_key}
use Rattle.tables.proofs.Words.{failed, same_eq, some_below_some, some_some_below, some_below_agree}
use Rattle.tables.proofs.Tests.{eq_test}
use Rattle.tables.proofs.Filled.{filled_at}

module _ (bs : List ℕ) (k : ℕ) (h : k < term_count bs) (fits : term_count bs ≤ 256) where
  -- a column of the records at a place up to k
  column_at : (f : ℕ → ℕ) (j : ℕ) → j ≤ k → get_or (filled 256 0 (term_count bs) f) j 0 ≡ f j
  column_at f j l = filled_at f 256 0 (term_count bs) j 0 (omega arith) fits

  -- row 4
  pub arity_by_columns : (symbols arities : List ℕ) (b : Bool) → symbols ≡ filled 256 0 (term_count bs) (λ i. symbol_field (term_record bs i)) → arities ≡ filled 256 0 (term_count bs) (λ i. arity_field (term_record bs i)) → b ≡ some_below (other_arity_in symbols arities k) k → b ≡ had_other_arity bs k
  unfolding had_other_arity other_arity
  arity_by_columns symbols arities b s a e =
      e ∙
      ap₂ (λ (x y : List ℕ). some_below (other_arity_in x y k) k) s a ∙
      some_below_agree _ (other_arity bs k) k
      (λ j l.
      ap₂ (λ (x y : Bool). x && y)
      (ap₂ eqb (column_at (λ i. symbol_field (term_record bs i)) j (omega arith)) (column_at (λ i. symbol_field (term_record bs i)) k (omega arith)))
      (ap not (ap₂ eqb (column_at (λ i. arity_field (term_record bs i)) j (omega arith)) (column_at (λ i. arity_field (term_record bs i)) k (omega arith)))))

  -- row 5: an equal record has the same key, so where no earlier record has the key, none is equal
  pub no_key : (keys : List ℕ) (b : Bool) → keys ≡ record_keys bs → b ≡ some_below (same_key keys k) k → b ≡ false → false ≡ equals_earlier bs k
  unfolding equals_earlier equal_records record_keys
  no_key keys b q e f = sym (failed (equals_earlier bs k) (not_T (equals_earlier bs k) none))
    where
      key_at : (j : ℕ) → j ≤ k → get_or keys j 0 ≡ record_key (term_record bs j)
      key_at j l = ap (λ (ks : List ℕ). get_or ks j 0) q ∙ column_at (λ i. record_key (term_record bs i)) j l

      none : T (equals_earlier bs k) → ⊥
      none t =
          let w = some_below_some (equal_records bs k) k t in
          let keys_same : get_or keys w.0 0 ≡ get_or keys k 0 = key_at w.0 (omega arith) ∙ ap record_key (same_eq (term_record bs w.0) (term_record bs k) w.2) ∙ sym (key_at k (omega arith)) in
          subst T (sym e ∙ f) (some_some_below (same_key keys k) k w.0 w.1 ((eq_test (get_or keys w.0 0) (get_or keys k 0)).1 keys_same))

-- Rows whose fields have the same labels are joined pair by pair, and have one key.
use mathlib.Core.Bool.{Bool, true, false}
use mathlib.Core.List.{List, map}
use mathlib.Core.Path.{◌≡◌, sym, ap, subst, ◌∙◌}
use Rattle.std.proofs.Common.{zero-add}
use Rattle.std.proofs.lemmas.List.FromFn.{length-range_with_len, get_or-range_with_len}
use Rattle.std.specs.Bool.{MatchBool}
use Rattle.std.specs.List.{range_with_len, AllWithin, HoldsAt}
use Prim.Native.Nat.{ℕ, ◌≤◌, ◌<◌}
use native.Mathlib.Omega.{arith}
use lib.Dec.{T, not_T}
use lib.ListN.{length, get_or, take, length-map, length-take, get_or-map}
use lib.Seq.{get_or-take, ext_get_or}
use Rattle.tables.proofs.Words.{passed, failed}
use Rattle.closure.specs.Graph.{Graph, label, joined_pairwise}
use Rattle.graphs.specs.Layout.{labels_of}
use Rattle.running.specs.Keys.{FieldsWithin, field_label}
use Rattle.closure.proofs.Walking.Joined.{joined_label}
use Rattle.closure.proofs.Running.Congruent.{pairwise_agree}
use Rattle.closure.proofs.Entailing.Model.{labels_joined}
use Rattle.graphs.proofs.LabelArray.{label_at}

-- lists that are joined pair by pair have one list of labels
pub joined_labels : (G : Graph) (xs ys : List ℕ) → T (joined_pairwise G xs ys) → map (label G) xs ≡ map (label G) ys
joined_labels G xs ys h = pairwise_agree G (label G) (joined_label G) xs ys h

-- field k of two rows has one label
abbrev pub SameLabel : List ℕ → List ℕ → List ℕ → ℕ → Type 0
SameLabel labels xs ys k = field_label labels xs k ≡ field_label labels ys k

module _ (G : Graph) (labels : List ℕ) (e : labels ≡ labels_of G) (arity : ℕ) where
  -- what stands at a place of the labels of the first fields
  field_at : (xs : List ℕ) → FieldsWithin xs → arity ≤ 4 → (k : ℕ) → k < arity → get_or (map (label G) (take arity xs)) k (label G 0) ≡ field_label labels xs k
  field_at xs f small k h =
      get_or-map (label G) (take arity xs) k 0 ∙
      ap (label G) (get_or-take arity xs k 0 h) ∙
      sym (ap (λ (l : List ℕ). field_label l xs k) e ∙ label_at G (get_or xs k 0) 0 (f.1 k (omega arith)))

  length_fields : (xs : List ℕ) → FieldsWithin xs → arity ≤ 4 → length (map (label G) (take arity xs)) ≡ arity
  length_fields xs f small = length-map (take arity xs) (label G) ∙ length-take arity xs ∙ omega (arith, f.0)

  module _ (xs ys : List ℕ) (f : FieldsWithin xs) (g : FieldsWithin ys) (small : arity ≤ 4) where
    abbrev Same : ℕ → Type 0
    Same = SameLabel labels xs ys

    -- fields that all agree are joined pair by pair
    all_same : ((k : ℕ) → k < arity → Same k) → true ≡ joined_pairwise G (take arity xs) (take arity ys)
    all_same same =
        sym
        (passed (joined_pairwise G (take arity xs) (take arity ys))
        (labels_joined G (take arity xs) (take arity ys)
        (ext_get_or (label G 0) (map (label G) (take arity xs)) (map (label G) (take arity ys))
        (length_fields xs f small ∙ sym (length_fields ys g small))
        (λ k h. let l : k < arity = omega (arith, length_fields xs f small) in field_at xs f small k l ∙ same k l ∙ sym (field_at ys g small k l)))))

    -- one that does not agree settles it
    one_differs : (k : ℕ) → k < arity → ¬ (Same k) → false ≡ joined_pairwise G (take arity xs) (take arity ys)
    one_differs k h differ =
        sym
        (failed (joined_pairwise G (take arity xs) (take arity ys))
        (not_T (joined_pairwise G (take arity xs) (take arity ys))
        (λ t. differ
        (sym (field_at xs f small k h) ∙
        ap (λ (l : List ℕ). get_or l k (label G 0)) (joined_labels G (take arity xs) (take arity ys) t) ∙
        field_at ys g small k h))))

    -- in turn, a field is asked at its number
    asked : (k : ℕ) → k < arity → get_or (range_with_len 0 arity) k 0 ≡ k
    asked k l = get_or-range_with_len 0 arity k 0 l ∙ zero-add k

    -- so the code, which asks it of each field in turn, finds it out
    pub fields_joined : (r : Bool) → MatchBool r (AllWithin Same (range_with_len 0 arity) 0 (length (range_with_len 0 arity))) ((k : ℕ) × (k < length (range_with_len 0 arity)) × HoldsAt (λ j. ¬ (Same j)) (range_with_len 0 arity) k) → r ≡ joined_pairwise G (take arity xs) (take arity ys)
    fields_joined true h = all_same (λ k l. subst Same (asked k l) (h k 0 (omega arith) (omega (arith, length-range_with_len 0 arity))))
    fields_joined false (k, l, differ) = let within : k < arity = omega (arith, length-range_with_len 0 arity) in one_differs k within (subst (λ j. ¬ (Same j)) (asked k within) (differ 0))

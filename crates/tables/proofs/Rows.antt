-- The checks of rows 1 to 6 say what the rows say: which row refuses, with its number, and at which place (specs/Rows).
use Rattle.std.proofs.Common.{Option, Some, None, Ok, Err}
use Rattle.std.proofs.lemmas.Option.{none-some}
use mathlib.Core.Bool.{Bool, true, false, not}
use mathlib.Core.List.{List, [], ◌∷◌, ◌++◌}
use mathlib.Core.Logic.{◌↔◌, ◌⊎◌, inl, inr, ⊎_elim}
use mathlib.Core.Path.{◌≡◌, refl, sym, ap, subst, ◌∙◌}
use Prim.Native.Nat.{ℕ, ◌%◌, ◌≤◌, ◌<◌}
use native.Mathlib.Omega.{arith}
use lib.Dec.{T, eqb, ltb}
use lib.ListN.{length}
use Rattle.tables.specs.TermTable.{term_count, term_record}
use Rattle.tables.specs.LiteralTable.{literal_count, literal_record}
use Rattle.tables.specs.Rows.{Row, row, Refuses, LowerPlace, LayoutFault, HadOtherArity, EqualsEarlier, LiteralFault, table_rows, Accepted}
use Rattle.tables.specs.Tests.{breaks_layout, had_other_arity, equals_earlier, breaks_literal}
use Rattle.tables.specs.Checks.{Check, Sound, place_of, length_row, count_row, layout_row, arity_row, repeated_row, literal_row, refuse, checked, number_of, place_in}
use Rattle.tables.specs.declared.Refusal.{Refusal}
use Rattle.tables.specs.declared.Refusal.TheVariants.{Length, Count, Layout, Arity, Repeated, Literal}
use Rattle.tables.proofs.Words.{first_is}
use Rattle.tables.proofs.Tests.{lt_test, ne_test, not_above}
use Rattle.tables.proofs.Faults.{breaks_layout_is, had_other_arity_is, equals_earlier_is, breaks_literal_is}

-- ---- one row

-- a row that names a place refuses there
pub refuse_at : (row : ℕ → Refusal) (o : Option ℕ) (next : Check) (place : ℕ) → o ≡ Some place → refuse row o next ≡ Err (row place)
unfolding refuse
refuse_at row o next place e = ap (λ (w : Option ℕ). refuse row w next) e

-- one that names none leaves it to the next
pub refuse_next : (row : ℕ → Refusal) (o : Option ℕ) (next : Check) → o ≡ None → refuse row o next ≡ next
unfolding refuse
refuse_next row o next e = ap (λ (w : Option ℕ). refuse row w next) e

-- ---- a check beside a list of rows

-- the check gives the refusal that the rows give, and is sound where they give none
pub record Says (c : Check) (rs : List Row) : Type 0 where
  pub given : (n p : ℕ) → Refuses rs n p → (r : Refusal) × (c ≡ Err r) × (n ≡ number_of r) × (p ≡ place_in r)
  pub found : (r : Refusal) → c ≡ Err r → Refuses rs (number_of r) (place_in r)

-- the refusals of row n carry its number and their place
record Carries (n : ℕ) (make : ℕ → Refusal) : Type 0 where
  number : (k : ℕ) → n ≡ number_of (make k)
  place : (k : ℕ) → k ≡ place_in (make k)

-- what is sound is not refused
sound_not_refused : {c : Check} {r : Refusal} → c ≡ Sound → c ≡ Err r → ⊥
sound_not_refused s e = let z : ◌≡◌ {A = ℕ} 0 1 = cc in omega arith

-- no row is left
says_sound : Says Sound []
says_sound = record { given = λ n p r. absurd r; found = λ r e. absurd (sound_not_refused refl e) }

-- one row more in front: o is the place that its check names
says_row : (n : ℕ) (make : ℕ → Refusal) → Carries n make → (o : Option ℕ) (Names : ℕ → Type 0) → ((k : ℕ) → (o ≡ Some k) ↔ Names k) → {next : Check} {rs : List Row} → Says next rs → Says (refuse make o next) (row n Names ∷ rs)
unfolding refuse
says_row n make own o Names f {next} {rs} later = go o f
  where
    go : (w : Option ℕ) → ((k : ℕ) → (w ≡ Some k) ↔ Names k) → Says (refuse make w next) (row n Names ∷ rs)
    go (Some j) g =
        record {
          given = λ m p. ⊎_elim
              (λ x. let e : j ≡ p = one ((g p).1 x.1) in (make j, refl, x.0 ∙ own.number j, sym e ∙ own.place j))
              (λ x. absurd (x.0 j ((g j).0 refl)));
          found = λ r q. let e : make j ≡ r = same_row q in inl (ap number_of (sym e) ∙ sym (own.number j), subst Names (own.place j ∙ ap place_in e) ((g j).0 refl));
        }
      where
        one : {a b : ℕ} → Some a ≡ Some b → a ≡ b
        one e = cc

        same_row : {a b : Refusal} → ◌≡◌ {A = Check} (Err a) (Err b) → a ≡ b
        same_row e = cc
    go None g =
        record {
          given = λ m p. ⊎_elim (λ x. absurd (none-some p ((g p).1 x.1))) (λ x. later.given m p x.1);
          found = λ r q. inr (λ p a. none-some p ((g p).1 a), later.found r q);
        }

-- a check is sound, or some row refuses
pub sound_or_refused : (c : Check) → (c ≡ Sound) ⊎ ((r : Refusal) × (c ≡ Err r))
sound_or_refused (Ok sound) = inl refl
sound_or_refused (Err r) = inr (r, refl)

-- ---- the six rows

-- which place two tests name: the lower first
place_some : (a b : Bool) (P Q : Type 0) → T a ↔ P → T b ↔ Q → (k : ℕ) → (place_of a b ≡ Some k) ↔ LowerPlace P Q k
unfolding place_of
place_some true b P Q f g k =
    (λ e. let z : k ≡ 0 = cc in inl (z, f.0 tt), ⊎_elim (λ w. ap Some (sym w.0)) (λ w. absurd (w.1 (f.0 tt))))
place_some false true P Q f g k =
    (λ e. let z : k ≡ 1 = cc in inr (z, f.1, g.0 tt), ⊎_elim (λ w. absurd (f.1 w.1)) (λ w. ap Some (sym w.0)))
place_some false false P Q f g k =
    (λ e. absurd (none-some k e), ⊎_elim (λ w. absurd (f.1 w.1)) (λ w. absurd (g.1 w.2)))

-- the refusals of each row
length_is : Carries 1 Length
unfolding number_of place_in
length_is = record { number = λ k. refl; place = λ k. refl }

count_is : Carries 2 Count
unfolding number_of place_in
count_is = record { number = λ k. refl; place = λ k. refl }

layout_is : Carries 3 Layout
unfolding number_of place_in
layout_is = record { number = λ k. refl; place = λ k. refl }

arity_is : Carries 4 Arity
unfolding number_of place_in
arity_is = record { number = λ k. refl; place = λ k. refl }

repeated_is : Carries 5 Repeated
unfolding number_of place_in
repeated_is = record { number = λ k. refl; place = λ k. refl }

literal_is : Carries 6 Literal
unfolding number_of place_in
literal_is = record { number = λ k. refl; place = λ k. refl }

module _ (ts ls : List ℕ) where
  -- the checks from each row on
  abbrev pub from6 : Check
  from6 = refuse Literal (literal_row ts ls) Sound

  abbrev pub from5 : Check
  from5 = refuse Repeated (repeated_row ts) from6

  abbrev pub from4 : Check
  from4 = refuse Arity (arity_row ts) from5

  abbrev pub from3 : Check
  from3 = refuse Layout (layout_row ts) from4

  abbrev pub from2 : Check
  from2 = refuse Count (count_row ts ls) from3

  -- where row 2 names no place, both counts are within their bounds
  pub count_none : count_row ts ls ≡ None → (term_count ts ≤ 256) × (literal_count ls ≤ 1024)
  unfolding count_row place_of
  count_none e = go (ltb 256 (term_count ts)) (ltb 1024 (literal_count ls)) (lt_test 256 (term_count ts)) (lt_test 1024 (literal_count ls)) e
    where
      go : (a b : Bool) → T a ↔ (256 < term_count ts) → T b ↔ (1024 < literal_count ls) → place_of a b ≡ None → (term_count ts ≤ 256) × (literal_count ls ≤ 1024)
      go true b f g q = absurd (none-some 0 (sym q))
      go false true f g q = absurd (none-some 1 (sym q))
      go false false f g q = ((not_above 256 (term_count ts)).0 f.1, (not_above 1024 (literal_count ls)).0 g.1)

  -- rows 1 to 6: each refusal is given exactly where its row's condition holds and no earlier row's does
  pub checked_says : Says (checked ts ls) (table_rows ts ls)
  unfolding checked length_row count_row layout_row arity_row repeated_row literal_row
  checked_says =
      says_row 1 Length length_is (length_row ts ls) _ (place_some (not (eqb (length ts % 16) 0)) (not (eqb (length ls % 8) 0)) _ _ (ne_test (length ts % 16) 0) (ne_test (length ls % 8) 0))
      (says_row 2 Count count_is (count_row ts ls) _ (place_some (ltb 256 (term_count ts)) (ltb 1024 (literal_count ls)) _ _ (lt_test 256 (term_count ts)) (lt_test 1024 (literal_count ls)))
      (says_row 3 Layout layout_is (layout_row ts) _ (first_is (breaks_layout ts) (λ k. LayoutFault k (term_record ts k)) (breaks_layout_is ts) (term_count ts))
      (says_row 4 Arity arity_is (arity_row ts) _ (first_is (had_other_arity ts) (HadOtherArity ts) (had_other_arity_is ts) (term_count ts))
      (says_row 5 Repeated repeated_is (repeated_row ts) _ (first_is (equals_earlier ts) (EqualsEarlier ts) (equals_earlier_is ts) (term_count ts))
      (says_row 6 Literal literal_is (literal_row ts ls) _ (first_is (breaks_literal (term_count ts) ls) (λ k. LiteralFault (term_count ts) (literal_record ls k)) (breaks_literal_is (term_count ts) ls) (literal_count ls)) says_sound)))))

  -- the check is sound exactly where no row refuses
  pub sound_exactly : (checked ts ls ≡ Sound) ↔ Accepted ts ls
  sound_exactly = (
    λ e n p r. let w = checked_says.given n p r in sound_not_refused e w.1,
    λ a. ⊎_elim (λ e. e) (λ w. absurd (a (number_of w.0) (place_in w.0) (checked_says.found w.0 w.1))) (sound_or_refused (checked ts ls)),
  )

-- ---- a row behind others

-- what the first rows refuse is refused
pub refuses_early : (rs more : List Row) (n p : ℕ) → Refuses rs n p → Refuses (rs ++ more) n p
refuses_early [] more n p x = absurd x
refuses_early (r ∷ rs) more n p x = ⊎_elim (λ h. inl h) (λ h. inr (h.0, refuses_early rs more n p h.1)) x

-- where they refuse nothing the last row does
pub refuses_last : (rs : List Row) (r : Row) (p : ℕ) → ((m q : ℕ) → Refuses rs m q → ⊥) → r.At p → Refuses (rs ++ (r ∷ [])) r.number p
refuses_last [] r p none_before a = inl (refl, a)
refuses_last (x ∷ rs) r p none_before a =
    let silent : (q : ℕ) → x.At q → ⊥ = λ q y. none_before x.number q (inl (refl, y)) in
    inr (silent, refuses_last rs r p (λ m q y. none_before m q (inr (silent, y))) a)

-- and there is no third way
pub refuses_either : (rs : List Row) (r : Row) (n p : ℕ) → Refuses (rs ++ (r ∷ [])) n p → Refuses rs n p ⊎ (((m q : ℕ) → Refuses rs m q → ⊥) × (n ≡ r.number) × r.At p)
refuses_either [] r n p x = ⊎_elim (λ h. inr (λ m q y. y, h.0, h.1)) (λ h. absurd h.1) x
refuses_either (s ∷ rs) r n p x =
    ⊎_elim (λ h. inl (inl h))
    (λ h. ⊎_elim (λ y. inl (inr (h.0, y))) (λ y. inr (λ m q. ⊎_elim (λ z. h.0 q z.1) (λ z. y.0 m q z.1), y.1, y.2)) (refuses_either rs r n p h.1))
    x

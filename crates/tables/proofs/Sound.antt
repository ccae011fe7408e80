-- What the checks of rows 1 to 6 settle: where none refuses, the tables have the form that the layers above rest on.
use Rattle.std.proofs.Common.{Ok, Err}
use mathlib.Core.List.Memᴰ
use mathlib.Core.List.{List, [], ◌∷◌, Memᴰ}
use mathlib.Core.Logic.{◌⊎◌, inl, inr, ⊎_elim}
use mathlib.Core.Path.{◌≡◌, refl, sym, ap, subst, ◌∙◌}
use Prim.Native.Nat.{ℕ, ◌%◌, ◌≤◌, ◌<◌}
use native.Mathlib.Omega.{arith}
use lib.Dec.{eqb, eqb→eq}
use lib.ListN.{length, get_or, take, length-take, get_or-eq_default}
use lib.Seq.{get_or-take}
use Rattle.tables.specs.Words.{below}
use Rattle.tables.specs.Bytes.{byte_at, word_at}
use Rattle.tables.specs.Terms.{Term, term_at, no_term}
use Rattle.tables.specs.Parts.{LowerArguments}
use Rattle.tables.specs.TermTable.{term_count, term_record, symbol_field, arity_field, argument_field, row_of, term_of, terms_of}
use Rattle.tables.specs.Tests.{breaks_layout, had_other_arity, equals_earlier, breaks_literal}
use Rattle.tables.specs.LiteralTable.{literal_count, literal_record, literal_of, literals_of}
use Rattle.tables.specs.declared.Literal.{Literal}
use Rattle.tables.specs.Rows.{Row, Refuses, LayoutFault, arity_over_four, argument_not_lower, HadOtherArity, EqualsEarlier, LiteralFault, side_not_one_or_two, kind_not_one_or_two, left_not_in_table, right_not_in_table, table_rows}
use Rattle.tables.specs.Checks.{Check, Sound, checked}
use Rattle.tables.specs.Read.{sound_tables, unless_refused, tables_read}
use Rattle.tables.specs.declared.Refusal.{Refusal}
use Rattle.tables.specs.declared.Tables.{Tables}
use Rattle.tables.proofs.Words.{decide, below_or_not, below_mem, mem_get_d, no_first}
use Rattle.tables.proofs.Tests.{ne_test, not_unequal, not_above}
use Rattle.tables.proofs.Faults.{breaks_layout_is, had_other_arity_is, equals_earlier_is, breaks_literal_is}
use Rattle.tables.proofs.Rows.{sound_exactly, sound_or_refused}
use Rattle.tables.proofs.Colours.{SidesWithin}
use Rattle.tables.proofs.Filled.{length_map_below, map_below_at}

-- both lengths are multiples, both counts fit, and no record breaks its rows
pub record SoundTables (bs ls : List ℕ) : Type 0 where
  pub terms_whole : length bs % 16 ≡ 0
  pub literals_whole : length ls % 8 ≡ 0
  pub terms_fit : term_count bs ≤ 256
  pub layout : (k : ℕ) → k < term_count bs → LayoutFault k (term_record bs k) → ⊥
  pub one_arity : (k : ℕ) → k < term_count bs → HadOtherArity bs k → ⊥
  pub distinct : (k : ℕ) → k < term_count bs → EqualsEarlier bs k → ⊥
  pub literal : (k : ℕ) → k < literal_count ls → LiteralFault (term_count bs) (literal_record ls k) → ⊥

-- no row of the list names a place
abbrev Silent : List Row → Type 0
Silent [] = Unit {0}
Silent (r ∷ rs) = ((p : ℕ) → r.At p → ⊥) × Silent rs

-- so it is where none of them refuses
silent : (rs : List Row) → ((n p : ℕ) → Refuses rs n p → ⊥) → Silent rs
silent [] f = tt
silent (r ∷ rs) f = let first : (p : ℕ) → r.At p → ⊥ = λ p a. f r.number p (inl (refl, a)) in (first, silent rs (λ n p x. f n p (inr (first, x))))

-- where the check says sound, the tables are
pub sound : (bs ls : List ℕ) → checked bs ls ≡ Sound → SoundTables bs ls
sound bs ls e =
    let rows = silent (table_rows bs ls) ((sound_exactly bs ls).0 e) in
    let later = rows.1.1 in
    let whole : length bs % 16 ≡ 0 = (not_unequal (length bs % 16) 0).0 (λ f. rows.0 0 (inl (refl, f))) in
    let fit : term_count bs ≤ 256 = (not_above 256 (term_count bs)).0 (λ h. rows.1.0 0 (inl (refl, h))) in
    record {
      terms_whole = whole;
      literals_whole = (not_unequal (length ls % 8) 0).0 (λ f. rows.0 1 (inr (refl, λ g. g whole, f)));
      terms_fit = fit;
      layout = no_first (breaks_layout bs) (λ k. LayoutFault k (term_record bs k)) (breaks_layout_is bs) (term_count bs) later.0;
      one_arity = no_first (had_other_arity bs) (HadOtherArity bs) (had_other_arity_is bs) (term_count bs) later.1.0;
      distinct = no_first (equals_earlier bs) (EqualsEarlier bs) (equals_earlier_is bs) (term_count bs) later.1.1.0;
      literal = no_first (breaks_literal (term_count bs) ls) (λ k. LiteralFault (term_count bs) (literal_record ls k)) (breaks_literal_is (term_count bs) ls) (literal_count ls) later.1.1.1.0;
    }

-- a symbol of sound tables has one arity, the later record second
pub later_arity : (bs ls : List ℕ) → SoundTables bs ls → (j k : ℕ) → j < k → k < term_count bs → symbol_field (term_record bs j) ≡ symbol_field (term_record bs k) → arity_field (term_record bs j) ≡ arity_field (term_record bs k)
later_arity bs ls s j k h l e = (not_unequal (arity_field (term_record bs j)) (arity_field (term_record bs k))).0 (λ f. s.one_arity k l (j, h, (e, f)))

-- ---- the tables as lists

-- there are as many terms as records
pub length_terms_of : (bs : List ℕ) → length (terms_of bs) ≡ term_count bs
unfolding terms_of
length_terms_of bs = length_map_below (λ k. term_of (term_record bs k)) (term_count bs)

-- a term of the table is what its record describes
pub term_at_terms_of : (bs : List ℕ) (t : ℕ) → t < term_count bs → term_at (terms_of bs) t ≡ term_of (term_record bs t)
unfolding terms_of
term_at_terms_of bs t h = map_below_at (λ k. term_of (term_record bs k)) (term_count bs) t no_term h

-- past the table there is no term
pub term_at_past : (bs : List ℕ) (t : ℕ) → term_count bs ≤ t → term_at (terms_of bs) t ≡ no_term
term_at_past bs t h = get_or-eq_default (terms_of bs) no_term (omega (arith, length_terms_of bs))

-- field j of a row is argument field j of its record
pub row_at : (r : List ℕ) (j : ℕ) → j < 4 → get_or (row_of r) j 0 ≡ argument_field r j
unfolding row_of below
row_at r j h = map_below_at (argument_field r) 4 j 0 h

-- a row has four fields
pub length_row_is : (r : List ℕ) → length (row_of r) ≡ 4
unfolding row_of
length_row_is r = refl

-- ---- what is known of each record

-- a number that may not be neither 1 nor 2 is one of them
one_or_two : (b : ℕ) → ((b ≡ 1 → ⊥) → (b ≡ 2 → ⊥) → ⊥) → (b ≡ 1) ⊎ (b ≡ 2)
one_or_two b f =
    ⊎_elim
    (λ h. inl (eqb→eq b 1 h))
    (λ h. ⊎_elim (λ k. inr (eqb→eq b 2 k)) (λ k. absurd (f ((ne_test b 1).0 h) ((ne_test b 2).0 k))) (decide (eqb b 2)))
    (decide (eqb b 1))

-- what row 6 leaves of a literal record in a table of n terms
pub record SoundLiteral (n : ℕ) (r : List ℕ) : Type 0 where
  pub side : (byte_at r 0 ≡ 1) ⊎ (byte_at r 0 ≡ 2)
  pub kind : (byte_at r 1 ≡ 1) ⊎ (byte_at r 1 ≡ 2)
  pub left : word_at r 2 < n
  pub right : word_at r 4 < n

module _ (bs ls : List ℕ) (s : SoundTables bs ls) where
  -- "arity (0 to 4)"
  pub arity_small : (k : ℕ) → k < term_count bs → arity_field (term_record bs k) ≤ 4
  arity_small k h = ⊎_elim (λ (l : 4 < arity_field (term_record bs k)). absurd (s.layout k h (arity_over_four l))) (λ (l : arity_field (term_record bs k) ≤ 4). l) (below_or_not 4 (arity_field (term_record bs k)))

  -- "Every argument is lower than the record's own number"
  pub argument_lower : (k j : ℕ) → k < term_count bs → j < arity_field (term_record bs k) → argument_field (term_record bs k) j < k
  argument_lower k j h l = ⊎_elim (λ (w : argument_field (term_record bs k) j < k). w) (λ (w : k ≤ argument_field (term_record bs k) j). absurd (s.layout k h (argument_not_lower j (omega (arith, arity_small k h)) l w))) (below_or_not (argument_field (term_record bs k) j) k)

  -- so is every number among the used fields of a row
  pub used_lower : (k : ℕ) → k < term_count bs → (a : ℕ) → Memᴰ a (take (arity_field (term_record bs k)) (row_of (term_record bs k))) → a < k
  used_lower k h a m =
      let r = term_record bs k in
      let p = mem_get_d 0 m in
      let l : p.0 < arity_field r = omega (arith, p.1, length-take (arity_field r) (row_of r)) in
      let e : get_or (row_of r) p.0 0 ≡ argument_field r p.0 = row_at r p.0 (omega (arith, arity_small k h)) in
      let q : argument_field r p.0 ≡ a = sym e ∙ sym (get_or-take (arity_field r) (row_of r) p.0 0 l) ∙ p.2 in
      subst (λ (z : ℕ). z < k) q (argument_lower k p.0 h l)

  -- the same of the terms
  pub lower_arguments : LowerArguments (terms_of bs)
  unfolding term_of
  lower_arguments t h a m =
      let l : t < term_count bs = omega (arith, length_terms_of bs) in
      used_lower t l a (subst (λ (x : Term). Memᴰ a x.arguments) (term_at_terms_of bs t l) m)

  -- no literal record breaks row 6
  pub sound_literal : (k : ℕ) → k < literal_count ls → SoundLiteral (term_count bs) (literal_record ls k)
  sound_literal k h =
      record {
        side = one_or_two (byte_at (literal_record ls k) 0) (λ a b. s.literal k h (side_not_one_or_two a b));
        kind = one_or_two (byte_at (literal_record ls k) 1) (λ a b. s.literal k h (kind_not_one_or_two a b));
        left = in_table (word_at (literal_record ls k) 2) left_not_in_table;
        right = in_table (word_at (literal_record ls k) 4) right_not_in_table;
      }
    where
      in_table : (t : ℕ) → (term_count bs ≤ t → LiteralFault (term_count bs) (literal_record ls k)) → t < term_count bs
      in_table t f = ⊎_elim (λ (l : t < term_count bs). l) (λ (l : term_count bs ≤ t). absurd (s.literal k h (f l))) (below_or_not t (term_count bs))

  -- the sides of the literals are terms of the table
  pub sides_within : SidesWithin (terms_of bs) (literals_of ls)
  unfolding literals_of literal_of
  sides_within l m =
      let p = Memᴰ.of_map (λ k. literal_of (literal_record ls k)) (below (literal_count ls)) m in
      let q = sound_literal p.0 (below_mem (literal_count ls) p.1) in
      let within : (t : ℕ) → t < term_count bs → t < length (terms_of bs) = λ t. subst (λ (n : ℕ). t < n) (sym (length_terms_of bs)) in
      subst (λ (x : Literal). (x.left < length (terms_of bs)) × (x.right < length (terms_of bs))) p.2 (within (word_at (literal_record ls p.0) 2) q.left, within (word_at (literal_record ls p.0) 4) q.right)

-- there are as many literals as records
pub length_literals_of : (ls : List ℕ) → length (literals_of ls) ≡ literal_count ls
unfolding literals_of
length_literals_of ls = length_map_below (λ k. literal_of (literal_record ls k)) (literal_count ls)

-- a literal is what its record describes
pub literal_at_is : (ls : List ℕ) (k : ℕ) (d : Literal) → k < literal_count ls → get_or (literals_of ls) k d ≡ literal_of (literal_record ls k)
unfolding literals_of
literal_at_is ls k d h = map_below_at (λ j. literal_of (literal_record ls j)) (literal_count ls) k d h

-- ---- the tables as arrays

-- tables that no row refuses are read as such
pub sound_read : (bs ls : List ℕ) → checked bs ls ≡ Sound → tables_read bs ls ≡ Ok (sound_tables bs ls)
unfolding tables_read unless_refused
sound_read bs ls e = ap (λ (c : Check). unless_refused c (sound_tables bs ls)) e

-- and those that one refuses are refused by it
pub refused_read : (bs ls : List ℕ) (r : Refusal) → checked bs ls ≡ Err r → tables_read bs ls ≡ Err r
unfolding tables_read unless_refused
refused_read bs ls r e = ap (λ (c : Check). unless_refused c (sound_tables bs ls)) e

-- what is read says what the checks say
pub read_check : (bs ls : List ℕ) → (t : Tables) → tables_read bs ls ≡ Ok t → checked bs ls ≡ Sound
read_check bs ls t e = ⊎_elim (λ s. s) (λ w. absurd (let q : tables_read bs ls ≡ Err w.0 = refused_read bs ls w.0 w.1 in let z : ◌≡◌ {A = ℕ} 0 1 = cc in omega arith)) (sound_or_refused (checked bs ls))

pub read_refused : (bs ls : List ℕ) → (r : Refusal) → tables_read bs ls ≡ Err r → checked bs ls ≡ Err r
read_refused bs ls r e = ⊎_elim (λ s. absurd (let q : tables_read bs ls ≡ Ok (sound_tables bs ls) = sound_read bs ls s in let z : ◌≡◌ {A = ℕ} 0 1 = cc in omega arith)) (λ w. let q : tables_read bs ls ≡ Err w.0 = refused_read bs ls w.0 w.1 in w.1 ∙ cc) (sound_or_refused (checked bs ls))

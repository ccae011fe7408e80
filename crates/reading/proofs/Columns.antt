-- The arrays that sound tables are read into hold the terms and the literals, so what is marked and coloured in them is what is in use and colourable.
use mathlib.Core.Bool.{Bool, false, cond, ◌||◌}
use mathlib.Core.List.Memᴰ
use mathlib.Core.List.{List, [], ◌∷◌, Memᴰ}
use mathlib.Core.Logic.{⊎_elim}
use mathlib.Core.Path.{◌≡◌, refl, sym, ap, ap₂, subst, ◌∙◌}
use Prim.Native.Nat.{ℕ, ◌+◌, ◌≤◌, ◌<◌}
use native.Mathlib.Omega.{arith}
use lib.Dec.{T, eqb, eqb→eq, eqb_refl}
use lib.ListN.{length, get_or, take}
use Rattle.tables.specs.Words.{below, every}
use Rattle.tables.specs.Tests.{some_below}
use Rattle.tables.specs.Bytes.{word_at}
use Rattle.tables.specs.Terms.{Term, term_at, parts, symbols}
use Rattle.tables.specs.Parts.{Part}
use Rattle.tables.specs.TermTable.{term_count, term_record, symbol_field, arity_field, row_of, term_of, terms_of}
use Rattle.tables.specs.LiteralTable.{literal_count, literal_record, literal_of, literals_of}
use Rattle.tables.specs.declared.Literal.{Literal}
use Rattle.tables.specs.declared.Side.{Side}
use Rattle.tables.specs.declared.Side.TheVariants.{A, B}
use Rattle.tables.specs.Checks.{Sound, checked}
use Rattle.tables.specs.Colours.{is_in_use, occurs_in, colourable}
use Rattle.tables.specs.Read.{filled, colour_number, argument_rows}
use Rattle.reading.specs.Marks.{arguments_in, Marked, LowerRows, Describes, LiteralsWithin, Inside, same_symbol_inside, parts_colour}
use Rattle.tables.proofs.Words.{and_left, and_right, and_both, or_cases, or_left, or_right, same_test, below_or_not, below_mem, mem_below, every_map, some_below_some, some_some_below}
use Rattle.tables.proofs.Terms.{mem_part, part_le}
use Rattle.tables.proofs.Colours.{PartOf, in_use_part, part_in_use, occurs_part, part_occurs}
use Rattle.reading.proofs.Marks.{part_marked}
use Rattle.tables.proofs.Filled.{filled_at, filled_behind, filled_past, filled_agree}
use Rattle.tables.proofs.Sound.{SoundTables, sound, length_terms_of, term_at_terms_of, term_at_past, length_row_is, arity_small, lower_arguments, sound_literal, sides_within}

-- ---- the columns

-- the symbol of each term record
abbrev pub symbol_column : List ℕ → List ℕ
symbol_column bs = filled 256 0 (term_count bs) (λ k. symbol_field (term_record bs k))

-- the arity of each term record
abbrev pub arity_column : List ℕ → List ℕ
arity_column bs = filled 256 0 (term_count bs) (λ k. arity_field (term_record bs k))

module _ (bs ls : List ℕ) (s : SoundTables bs ls) where
  -- ---- the terms

  -- the rows and arities are those of the terms
  pub described : Describes (argument_rows bs) (arity_column bs) (terms_of bs)
  unfolding argument_rows term_of
  described t = ⊎_elim within past (below_or_not t (term_count bs))
    where
      within : t < term_count bs → arguments_in (argument_rows bs) (arity_column bs) t ≡ (term_at (terms_of bs) t).arguments
      within h =
          ap₂ (λ (n : ℕ) (row : List ℕ). take n row) (filled_at (λ k. arity_field (term_record bs k)) 256 0 (term_count bs) t 0 h s.terms_fit) (filled_at (λ k. row_of (term_record bs k)) 256 (0 ∷ 0 ∷ 0 ∷ 0 ∷ []) (term_count bs) t [] h s.terms_fit) ∙
          ap (λ (x : Term). x.arguments) (sym (term_at_terms_of bs t h))

      past : term_count bs ≤ t → arguments_in (argument_rows bs) (arity_column bs) t ≡ (term_at (terms_of bs) t).arguments
      past h =
          ap (λ (n : ℕ). take n (get_or (argument_rows bs) t [])) (filled_past (λ k. arity_field (term_record bs k)) 256 0 (term_count bs) t h) ∙
          ap (λ (x : Term). x.arguments) (sym (term_at_past bs t h))

  -- rows of four, arities of at most four, lower arguments
  pub lower_rows : LowerRows (argument_rows bs) (arity_column bs)
  unfolding argument_rows
  lower_rows = record { four = four; arity = arity; lower = lower }
    where
      arities : ℕ → ℕ
      arities k = arity_field (term_record bs k)

      four : (t : ℕ) → t < 256 → length (get_or (argument_rows bs) t []) ≡ 4
      four t h =
          ⊎_elim
          (λ (l : t < term_count bs). ap length (filled_at (λ k. row_of (term_record bs k)) 256 (0 ∷ 0 ∷ 0 ∷ 0 ∷ []) (term_count bs) t [] l s.terms_fit) ∙ length_row_is (term_record bs t))
          (λ (l : term_count bs ≤ t). ap length (filled_behind (λ k. row_of (term_record bs k)) 256 (0 ∷ 0 ∷ 0 ∷ 0 ∷ []) (term_count bs) t [] l h))
          (below_or_not t (term_count bs))

      arity : (t : ℕ) → t < 256 → get_or (arity_column bs) t 0 ≤ 4
      arity t h =
          ⊎_elim
          (λ (l : t < term_count bs). subst (λ (n : ℕ). n ≤ 4) (sym (filled_at arities 256 0 (term_count bs) t 0 l s.terms_fit)) (arity_small bs ls s t l))
          (λ (l : term_count bs ≤ t). omega (arith, filled_past arities 256 0 (term_count bs) t l))
          (below_or_not t (term_count bs))

      lower : (t : ℕ) → t < 256 → (a : ℕ) → Memᴰ a (arguments_in (argument_rows bs) (arity_column bs) t) → a < t
      lower t h a m =
          ⊎_elim
          (λ (l : t < term_count bs). lower_arguments bs ls s t (omega (arith, length_terms_of bs)) a (subst (Memᴰ a) (described t) m))
          (λ (l : term_count bs ≤ t). absurd (Memᴰ.not-nil (subst (λ (x : Term). Memᴰ a x.arguments) (term_at_past bs t l) (subst (Memᴰ a) (described t) m))))
          (below_or_not t (term_count bs))

  -- an entry of the symbols is the symbol of the term
  symbol_at : (t : ℕ) → t < term_count bs → get_or (symbol_column bs) t 0 ≡ (term_at (terms_of bs) t).symbol
  unfolding term_of
  symbol_at t h = filled_at (λ k. symbol_field (term_record bs k)) 256 0 (term_count bs) t 0 h s.terms_fit ∙ ap (λ (x : Term). x.symbol) (sym (term_at_terms_of bs t h))

  -- ---- the literals

  -- the literals' sides are term numbers
  pub literals_within : LiteralsWithin ls
  literals_within =
      record {
        left = λ k h. omega (arith, (sound_literal bs ls s k h).left, s.terms_fit);
        right = λ k h. omega (arith, (sound_literal bs ls s k h).right, s.terms_fit);
      }

  -- ---- what is marked

  module _ (X : Side) (marks : List Bool) (x : Inside (argument_rows bs) (arity_column bs) ls X (literal_count ls) marks) where
    -- what is marked stands in a literal of the side
    inside_part : (u : ℕ) → Marked marks u → (l : Literal) × Memᴰ l (literals_of ls) × (l.side ≡ X) × PartOf (terms_of bs) u l
    unfolding literals_of literal_of
    inside_part u m =
        let r = x.only (terms_of bs) described u m in
        let k = r.0 in (
          literal_of (literal_record ls k),
          Memᴰ.map (λ i. literal_of (literal_record ls i)) (mem_below (literal_count ls) k r.1),
          r.2,
          r.3,
        )

    -- and what stands in one is marked
    part_inside : (l : Literal) → Memᴰ l (literals_of ls) → l.side ≡ X → (u : ℕ) → PartOf (terms_of bs) u l → Marked marks u
    unfolding literals_of literal_of
    part_inside l m e u p =
        let r = Memᴰ.of_map (λ i. literal_of (literal_record ls i)) (below (literal_count ls)) m in
        let k = r.0 in
        let h : k < literal_count ls = below_mem (literal_count ls) r.1 in
        let w = x.reached k h (ap (λ (y : Literal). y.side) r.2 ∙ e) in
        let under : (t : ℕ) → Part (terms_of bs) u t → Marked marks t → Marked marks u = λ t q n. part_marked (argument_rows bs) (arity_column bs) (terms_of bs) described marks x.closed q n in
        let lefts : word_at (literal_record ls k) 2 ≡ l.left = ap (λ (y : Literal). y.left) r.2 in
        let rights : word_at (literal_record ls k) 4 ≡ l.right = ap (λ (y : Literal). y.right) r.2 in
        ⊎_elim (λ (q : Part (terms_of bs) u l.left). under l.left q (subst (Marked marks) lefts w.0)) (λ (q : Part (terms_of bs) u l.right). under l.right q (subst (Marked marks) rights w.1)) p

    -- an entry of what occurs: whether the term's symbol occurs in some literal of the side
    pub occurring_at : (u : ℕ) → u < term_count bs → some_below (same_symbol_inside (symbol_column bs) marks u) (term_count bs) ≡ occurs_in (terms_of bs) (literals_of ls) X (term_at (terms_of bs) u).symbol
    occurring_at u h = same_test (some_below same (term_count bs)) (occurs_in ts (literals_of ls) X (term_at ts u).symbol) to from
      where
        ts : List Term
        ts = terms_of bs

        same : ℕ → Bool
        same = same_symbol_inside (symbol_column bs) marks u

        to : T (some_below same (term_count bs)) → T (occurs_in ts (literals_of ls) X (term_at ts u).symbol)
        to k =
            let r = some_below_some same (term_count bs) k in
            let v = r.0 in
            let m = inside_part v (and_left (get_or marks v false) (eqb (get_or (symbol_column bs) v 0) (get_or (symbol_column bs) u 0)) r.2) in
            let e = eqb→eq (get_or (symbol_column bs) v 0) (get_or (symbol_column bs) u 0) (and_right (get_or marks v false) (eqb (get_or (symbol_column bs) v 0) (get_or (symbol_column bs) u 0)) r.2) in
            subst (λ (f : ℕ). T (occurs_in ts (literals_of ls) X f)) (sym (symbol_at v r.1) ∙ e ∙ symbol_at u h) (part_occurs ts (literals_of ls) (lower_arguments bs ls s) (sides_within bs ls s) X m.0 m.1 m.2 v m.3)

        from : T (occurs_in ts (literals_of ls) X (term_at ts u).symbol) → T (some_below same (term_count bs))
        from k =
            let r = occurs_part ts (literals_of ls) (lower_arguments bs ls s) (sides_within bs ls s) X (term_at ts u).symbol k in
            let v = r.3.0 in
            let w = sides_within bs ls s r.0 r.1 in
            let l : v < term_count bs = ⊎_elim (λ (p : Part ts v r.0.left). omega (arith, part_le ts (lower_arguments bs ls s) w.0 p, w.0, length_terms_of bs)) (λ (p : Part ts v r.0.right). omega (arith, part_le ts (lower_arguments bs ls s) w.1 p, w.1, length_terms_of bs)) r.3.1 in
            let e : get_or (symbol_column bs) v 0 ≡ get_or (symbol_column bs) u 0 = symbol_at v l ∙ r.3.2 ∙ sym (symbol_at u h) in
            some_some_below same (term_count bs) v l (and_both (get_or marks v false) (eqb (get_or (symbol_column bs) v 0) (get_or (symbol_column bs) u 0)) (part_inside r.0 r.1 r.2 v r.3.1) (subst (λ (n : ℕ). T (eqb (get_or (symbol_column bs) v 0) n)) e (eqb_refl (get_or (symbol_column bs) v 0))))

    -- the terms whose symbols occur
    abbrev occurring_column : List Bool
    occurring_column = filled 256 false (term_count bs) (λ t. some_below (same_symbol_inside (symbol_column bs) marks t) (term_count bs))

    -- "A term is A-colourable when each of its symbols occurs in some A literal; B-colourable likewise"
    pub colourable_at : (t : ℕ) → t < term_count bs → every (λ u. get_or occurring_column u false) (parts (terms_of bs) t) ≡ colourable (terms_of bs) (literals_of ls) X (terms_of bs) t
    unfolding colourable symbols
    colourable_at t h = every_map (λ u. get_or occurring_column u false) (occurs_in ts (literals_of ls) X) (λ u. (term_at ts u).symbol) (parts ts t) each
      where
        ts : List Term
        ts = terms_of bs

        each : (u : ℕ) → Memᴰ u (parts ts t) → get_or occurring_column u false ≡ occurs_in ts (literals_of ls) X (term_at ts u).symbol
        each u m =
            let l : u < term_count bs = omega (arith, part_le ts (lower_arguments bs ls s) (omega (arith, length_terms_of bs)) (mem_part ts t u m)) in
            filled_at (λ k. some_below (same_symbol_inside (symbol_column bs) marks k) (term_count bs)) 256 false (term_count bs) u false l s.terms_fit ∙ occurring_at u l

  module _ (a b : List Bool) (x : Inside (argument_rows bs) (arity_column bs) ls A (literal_count ls) a) (y : Inside (argument_rows bs) (arity_column bs) ls B (literal_count ls) b) where
    -- the colours that are read are those of the definitions
    pub colours_read : filled 256 0 (term_count bs) (parts_colour (occurring_column A a x) (occurring_column B b y) (terms_of bs)) ≡ filled 256 0 (term_count bs) (colour_number (terms_of bs) (literals_of ls) (terms_of bs))
    unfolding colour_number
    colours_read =
        filled_agree 256 0 (term_count bs) (parts_colour (occurring_column A a x) (occurring_column B b y) (terms_of bs)) (colour_number (terms_of bs) (literals_of ls) (terms_of bs))
        (λ t h. ap₂ (λ (p q : Bool). cond p 1 0 + cond q 2 0) (colourable_at A a x t h) (colourable_at B b y t h))

    -- and so are the terms in use
    pub used_read : filled 256 false (term_count bs) (λ t. get_or a t false || get_or b t false) ≡ filled 256 false (term_count bs) (is_in_use (terms_of bs) (literals_of ls))
    used_read = filled_agree 256 false (term_count bs) (λ t. get_or a t false || get_or b t false) (is_in_use (terms_of bs) (literals_of ls)) (λ t h. same_test (get_or a t false || get_or b t false) (is_in_use (terms_of bs) (literals_of ls) t) (to t) (from t))
      where
        used : (t : ℕ) → (l : Literal) × Memᴰ l (literals_of ls) × PartOf (terms_of bs) t l → T (is_in_use (terms_of bs) (literals_of ls) t)
        used t r = part_in_use (terms_of bs) (literals_of ls) (lower_arguments bs ls s) (sides_within bs ls s) r.0 r.1 t r.2

        to : (t : ℕ) → T (get_or a t false || get_or b t false) → T (is_in_use (terms_of bs) (literals_of ls) t)
        to t h = ⊎_elim (λ m. let r = inside_part A a x t m in used t (r.0, r.1, r.3)) (λ m. let r = inside_part B b y t m in used t (r.0, r.1, r.3)) (or_cases (get_or a t false) (get_or b t false) h)

        on : (t : ℕ) (l : Literal) (X : Side) → l.side ≡ X → Memᴰ l (literals_of ls) → PartOf (terms_of bs) t l → T (get_or a t false || get_or b t false)
        on t l A e m p = or_left (get_or a t false) (get_or b t false) (part_inside A a x l m e t p)
        on t l B e m p = or_right (get_or a t false) (get_or b t false) (part_inside B b y l m e t p)

        from : (t : ℕ) → T (is_in_use (terms_of bs) (literals_of ls) t) → T (get_or a t false || get_or b t false)
        from t h =
            let r = in_use_part (terms_of bs) (literals_of ls) (lower_arguments bs ls s) (sides_within bs ls s) t h in
            on t r.0 r.0.side refl r.1 r.2

-- ---- the arrays, as the code has them

-- arrays that hold what the columns of sound tables hold
pub record Columns : Type 0 where
  pub bs : List ℕ
  pub ls : List ℕ
  pub symbols : List ℕ
  pub arities : List ℕ
  pub rows : List (List ℕ)
  pub tables : SoundTables bs ls
  pub symbols_read : symbols ≡ symbol_column bs
  pub arities_read : arities ≡ arity_column bs
  pub rows_read : rows ≡ argument_rows bs

-- the terms of a side are marked in the arrays
abbrev pub Marks : Columns → Side → List Bool → Type 0
Marks c side marks = Inside c.rows c.arities c.ls side (literal_count c.ls) marks

module _ (c : Columns) where
  -- what holds of the columns holds of the arrays
  columns_carry : (P : List (List ℕ) → List ℕ → Type 0) → P (argument_rows c.bs) (arity_column c.bs) → P c.rows c.arities
  columns_carry P x =
      subst (λ (r : List (List ℕ)). P r c.arities) (sym c.rows_read) (subst (λ (a : List ℕ). P (argument_rows c.bs) a) (sym c.arities_read) x)

  -- the rows are lower
  pub columns_lower : LowerRows c.rows c.arities
  columns_lower = columns_carry LowerRows (lower_rows c.bs c.ls c.tables)

  -- the rows describe the terms
  columns_described : Describes c.rows c.arities (terms_of c.bs)
  columns_described = columns_carry (λ r a. Describes r a (terms_of c.bs)) (described c.bs c.ls c.tables)

  -- marks of the arrays are marks of the columns
  columns_inside : (side : Side) (marks : List Bool) → Marks c side marks → Inside (argument_rows c.bs) (arity_column c.bs) c.ls side (literal_count c.ls) marks
  columns_inside side marks =
      columns_carry
      (λ r a. Inside r a c.ls side (literal_count c.ls) marks → Inside (argument_rows c.bs) (arity_column c.bs) c.ls side (literal_count c.ls) marks)
      (λ x. x)

  -- what occurs according to the marks of a side
  abbrev pub occurs_by : List Bool → List Bool
  occurs_by marks = filled 256 false (term_count c.bs) (λ t. some_below (same_symbol_inside c.symbols marks t) (term_count c.bs))

  module _ (a b : List Bool) (x : Marks c A a) (y : Marks c B b) where
    -- the terms in use, as the code has them
    pub columns_used : (used : List Bool) → used ≡ filled 256 false (term_count c.bs) (λ t. get_or a t false || get_or b t false) → used ≡ filled 256 false (term_count c.bs) (is_in_use (terms_of c.bs) (literals_of c.ls))
    columns_used used e = e ∙ used_read c.bs c.ls c.tables a b (columns_inside A a x) (columns_inside B b y)

    -- the colours, as the code has them
    pub columns_colours : (in_a in_b : List Bool) (colours : List ℕ) → in_a ≡ occurs_by a → in_b ≡ occurs_by b → ((ts : List Term) → Describes c.rows c.arities ts → length ts ≡ term_count c.bs → colours ≡ filled 256 0 (term_count c.bs) (parts_colour in_a in_b ts)) → colours ≡ filled 256 0 (term_count c.bs) (colour_number (terms_of c.bs) (literals_of c.ls) (terms_of c.bs))
    columns_colours in_a in_b colours p q e =
        e (terms_of c.bs) columns_described (length_terms_of c.bs) ∙
        ap₂ (λ (u v : List Bool). filled 256 0 (term_count c.bs) (parts_colour u v (terms_of c.bs))) (p ∙ by a) (q ∙ by b) ∙
        colours_read c.bs c.ls c.tables a b (columns_inside A a x) (columns_inside B b y)
      where
        by : (marks : List Bool) → occurs_by marks ≡ filled 256 false (term_count c.bs) (λ t. some_below (same_symbol_inside (symbol_column c.bs) marks t) (term_count c.bs))
        by marks = ap (λ (s : List ℕ). filled 256 false (term_count c.bs) (λ t. some_below (same_symbol_inside s marks t) (term_count c.bs))) c.symbols_read

-- what the checks settle of the count and of the sides
pub few_terms : (bs ls : List ℕ) → checked bs ls ≡ Sound → term_count bs ≤ 256
few_terms bs ls e = (sound bs ls e).terms_fit

pub sides_in_table : (bs ls : List ℕ) → checked bs ls ≡ Sound → LiteralsWithin ls
sides_in_table bs ls e = literals_within bs ls (sound bs ls e)

-- The arrays filled from the tables show the state before the first step.
use Rattle.std.proofs.Common.{Result, Ok}
use Rattle.tables.specs.declared.Refusal.{Refusal}
use mathlib.Core.Bool.{false}
use mathlib.Core.List.{List, [], ◌++◌, map, append_assoc, append-nil}
use mathlib.Core.Logic.{⊎_elim}
use mathlib.Core.Path.{◌≡◌, sym, ap, ap₂, ◌∙◌}
use Prim.Native.Nat.{ℕ, ◌+◌, ◌-◌, ◌≤◌, ◌<◌, min}
use native.Mathlib.Omega.{arith}
use borrow.Author.Tests.{eqb-false}
use lib.Dec.{eqb, eqb→eq}
use lib.ListN.{length, get_or, take, drop, replicate, length-append, length-take, length-replicate, get_or-replicate, get_or-append}
use lib.Seq.{ext_get_or, get_or-take, get_or-append-add}
use Rattle.std.proofs.lemmas.List.{replicate-append-replicate, drop-replicate}
use Rattle.tables.specs.Words.{below}
use Rattle.tables.specs.Terms.{Term, term_at}
use Rattle.tables.specs.TermTable.{term_count, term_record, symbol_field, arity_field, argument_field, row_of, term_of, terms_of}
use Rattle.tables.specs.LiteralTable.{literals_of}
use Rattle.tables.specs.Colours.{is_in_use}
use Rattle.tables.specs.Checks.{checked}
use Rattle.tables.specs.Read.{filled, colour_number, argument_rows, sound_tables, tables_read}
use Rattle.tables.specs.declared.Tables.{Tables}
use Rattle.tables.specs.Rows.{unused_field_not_zero}
use Rattle.tables.proofs.Words.{by_test, passes, below_or_not}
use Rattle.tables.proofs.Filled.{length_filled, filled_agree}
use Rattle.tables.proofs.Sound.{SoundTables, sound, sound_read, length_terms_of, term_at_terms_of, row_at, length_row_is, arity_small}
use Rattle.closure.specs.Steps.{begin, table_of, vertex}
use Rattle.closure.proofs.Running.Vertices.{vertex_given}
use Rattle.graphs.specs.Layout.{edges_of}
use Rattle.running.specs.Shown.{padded, column}
use Rattle.graphs.specs.declared.graph.Graph.{Graph as Kept}
use Rattle.running.specs.Opening.{ReadFrom, Blank, Opens}
use Rattle.running.specs.declared.state.State.{State as Arrays}

-- ---- tables that no row refuses

-- "Argument fields past the arity are zero"
unused_zero : (bs ls : List ℕ) → SoundTables bs ls → (k j : ℕ) → k < term_count bs → j < 4 → arity_field (term_record bs k) ≤ j → argument_field (term_record bs k) j ≡ 0
unused_zero bs ls s k j h l a =
    let x = argument_field (term_record bs k) j in
    by_test (eqb x 0) (λ e. eqb→eq x 0 (passes (eqb x 0) e)) (λ e. absurd (s.layout k h (unused_field_not_zero j l a (eqb-false x 0 e))))

-- so the row of a record is its term's arguments, padded
pub row_padded : (bs ls : List ℕ) → SoundTables bs ls → (k : ℕ) → k < term_count bs → row_of (term_record bs k) ≡ padded (take (arity_field (term_record bs k)) (row_of (term_record bs k)))
unfolding padded
row_padded bs ls s k h =
    let r = term_record bs k in
    let n = arity_field r in
    let used = take n (row_of r) in
    let small = arity_small bs ls s k h in
    let len : length used ≡ n = length-take n (row_of r) ∙ omega (arith, length_row_is r) in
    ext_get_or 0 (row_of r) (used ++ replicate (4 - length used) 0)
    (length_row_is r ∙ sym (length-append used (replicate (4 - length used) 0) ∙ ap (λ (m : ℕ). length used + m) (length-replicate (4 - length used) 0) ∙ omega arith))
    (λ j l. let in_row : j < 4 = omega (arith, length_row_is r) in
    ⊎_elim
    (λ (w : j < n). sym (get_or-append used (replicate (4 - length used) 0) 0 j (omega arith) ∙ get_or-take n (row_of r) j 0 w))
    (λ (w : n ≤ j).
    let e : j ≡ length used + (j - n) = omega arith in
    row_at r j in_row ∙ unused_zero bs ls s k j h in_row w ∙
    sym (ap (λ (i : ℕ). get_or (used ++ replicate (4 - length used) 0) i 0) e ∙ get_or-append-add used (replicate (4 - length used) 0) (j - n) 0 ∙ get_or-replicate (4 - length used) (j - n) 0 0 (omega arith)))
    (below_or_not j n))

-- and the arity is the number of the arguments
pub arity_length : (bs ls : List ℕ) → SoundTables bs ls → (k : ℕ) → k < term_count bs → arity_field (term_record bs k) ≡ length (take (arity_field (term_record bs k)) (row_of (term_record bs k)))
arity_length bs ls s k h =
    let r = term_record bs k in
    sym (length-take (arity_field r) (row_of r) ∙ omega (arith, length_row_is r, arity_small bs ls s k h))

-- sound tables are read as such
pub read_sound : (t : Tables) (from : ReadFrom t) → t ≡ sound_tables from.terms from.literals
read_sound t from = one_ok (sym from.read ∙ sound_read from.terms from.literals from.sound)
  where
    one_ok : {x y : Tables} → ◌≡◌ {A = Result Tables Refusal} (Ok x) (Ok y) → x ≡ y
    one_ok e = cc

-- with the rows of all arguments
pub rows_are : (t : Tables) (from : ReadFrom t) → t.rows ≡ argument_rows from.terms
unfolding sound_tables
rows_are t from = ap (λ (x : Tables). x.rows) (read_sound t from)

-- so they are from the same terms and the literals that are lent
abbrev pub lent : {t : Tables} (from : ReadFrom t) (ls : List ℕ) → from.literals ≡ ls → ReadFrom t
lent from ls e =
    record { terms = from.terms; literals = ls; read = ap (tables_read from.terms) (sym e) ∙ from.read; sound = ap (checked from.terms) (sym e) ∙ from.sound }

-- ---- the arrays as they are laid out

-- an array of the tables with places behind it for the added terms
pub extended {ℓ} : {X : Type ℓ} (filler : X) (n : ℕ) (f : ℕ → X) → n ≤ 256 → filled 256 filler n f ++ replicate 255 filler ≡ filled 511 filler n f
unfolding filled
extended {X = X} filler n f h =
    let front : min n 256 ≡ min n 511 = omega arith in
    let rest : 256 - n + 255 ≡ 511 - n = omega arith in
    append_assoc (map f (below (min n 256))) (replicate (256 - n) filler) (replicate 255 filler) ∙
    ap₂ (λ (k : ℕ) (l : List X). map f (below k) ++ l) front (replicate-append-replicate (256 - n) 255 filler ∙ ap (λ (k : ℕ). replicate k filler) rest)

module _ (t : Tables) (from : ReadFrom t) where
  abbrev bs : List ℕ
  bs = from.terms

  abbrev ls : List ℕ
  ls = from.literals

  -- what the checks settle
  pub sound_tables_is : SoundTables bs ls
  sound_tables_is = sound bs ls from.sound

  pub terms_are : t.terms ≡ term_count bs
  unfolding sound_tables
  terms_are = ap (λ (x : Tables). x.terms) (read_sound t from)

  pub terms_fit : t.terms ≤ 256
  terms_fit = omega (arith, terms_are, sound_tables_is.terms_fit)

  -- the table before the first step is that of the given terms
  length_table : length (table_of (terms_of bs) begin) ≡ term_count bs
  length_table = ap length (append-nil (terms_of bs)) ∙ length_terms_of bs

  term_is : (k : ℕ) → k < term_count bs → term_at (table_of (terms_of bs) begin) k ≡ term_of (term_record bs k)
  term_is k h = ap (λ (table : List Term). term_at table k) (append-nil (terms_of bs)) ∙ term_at_terms_of bs k h

  -- the rows of the arguments, which are padded with zeros
  argument_rows_are : t.rows ≡ filled 256 (padded []) (term_count bs) (λ k. row_of (term_record bs k))
  unfolding argument_rows padded
  argument_rows_are = rows_are t from

  -- an array with a column of the tables in front says the same of each term
  laid_column : {X : Type 0} (filler : X) (g h : ℕ → X) {blank xs ys : List X} → ys ≡ filled 256 filler (term_count bs) g → blank ≡ replicate 511 filler → xs ≡ ys ++ drop (length ys) blank → ((k : ℕ) → k < term_count bs → g k ≡ h k) → xs ≡ column filler (table_of (terms_of bs) begin) h
  laid_column {X = X} filler g h are blank laid same =
      let size = ap length are ∙ length_filled g 256 filler (term_count bs) in
      laid ∙
      (λ i. are i ++ drop (size i) (blank i)) ∙
      ap (λ (zs : List X). filled 256 filler (term_count bs) g ++ zs) (drop-replicate 256 511 filler) ∙
      extended filler (term_count bs) g sound_tables_is.terms_fit ∙
      filled_agree 511 filler (term_count bs) g h same ∙
      ap (λ (n : ℕ). filled 511 filler n h) (sym length_table)

  -- so blank arrays with all columns in front show the state before the first step
  module _ (blank st : Arrays) (b : Blank blank) where
    pub opens :
        st.terms ≡ t.terms → st.symbols ≡ t.symbols ++ drop (length t.symbols) blank.symbols → st.arities ≡ t.arities ++ drop (length t.arities) blank.arities →
        st.rows ≡ t.rows ++ drop (length t.rows) blank.rows → st.colours ≡ t.colours ++ drop (length t.colours) blank.colours →
        st.vertices ≡ t.used ++ drop (length t.used) blank.vertices → st.graph ≡ blank.graph → st.labels ≡ blank.labels → Opens from st
    unfolding sound_tables term_of
    opens terms symbols arities rows colours vertices graph labels =
        let ts = terms_of bs in
        let lits = literals_of ls in
        let table = table_of ts begin in
        let read : t ≡ sound_tables bs ls = read_sound t from in
        record {
          within = omega (arith, length_table, sound_tables_is.terms_fit);
          terms = terms ∙ terms_are ∙ sym length_table;
          symbols = laid_column 0 (λ k. symbol_field (term_record bs k)) (λ k. (term_at table k).symbol) (ap (λ (x : Tables). x.symbols) read) b.symbols symbols (λ k l. sym (ap (λ (x : Term). x.symbol) (term_is k l)));
          arities = laid_column 0 (λ k. arity_field (term_record bs k)) (λ k. length (term_at table k).arguments) (ap (λ (x : Tables). x.arities) read) b.arities arities (λ k l. arity_length bs ls sound_tables_is k l ∙ sym (ap (λ (x : Term). length x.arguments) (term_is k l)));
          rows = laid_column (padded []) (λ k. row_of (term_record bs k)) (λ k. padded (term_at table k).arguments) argument_rows_are b.rows rows (λ k l. row_padded bs ls sound_tables_is k l ∙ sym (ap (λ (x : Term). padded x.arguments) (term_is k l)));
          colours = laid_column 0 (colour_number ts lits ts) (colour_number ts lits table) (ap (λ (x : Tables). x.colours) read) b.colours colours (λ k l. sym (ap (λ (x : List Term). colour_number ts lits x k) (append-nil ts)));
          vertices = laid_column false (is_in_use ts lits) (vertex ts lits begin) (ap (λ (x : Tables). x.used) read) b.vertices vertices (λ k l. sym (vertex_given ts lits begin k (omega (arith, length_terms_of bs))));
          edges = ap edges_of graph ∙ b.edges;
          count = ap (λ (g : Kept). g.count) graph ∙ b.count;
          labels = labels ∙ b.labels;
        }

-- The arrays go on showing the state: with one edge more, and with one term more.
use mathlib.Core.Bool.{Bool, true, false, cond}
use mathlib.Core.List.{List, [], ◌∷◌, ◌++◌, map, append_assoc}
use mathlib.Core.Logic.{⊎_elim}
use mathlib.Core.Path.{◌≡◌, refl, sym, ap, ap₂, ◌∙◌}
use Prim.Native.Nat.{ℕ, suc, ◌+◌, ◌-◌, ◌≤◌, ◌<◌}
use native.Mathlib.Numerals.{add-one}
use native.Mathlib.Omega.{arith}
use lib.Dec.{T, eqb}
use lib.ListN.{length, get_or, take, set, replicate, length-append, get_or-append}
use lib.Seq.{get_or_at, take-append_seam}
use Rattle.tables.specs.Terms.{Term, no_term, term_at}
use Rattle.tables.specs.Parts.{LowerArguments}
use Rattle.tables.specs.declared.Literal.{Literal}
use Rattle.tables.specs.declared.Side.{Side}
use Rattle.tables.specs.Colours.{is_in_use, shared}
use Rattle.tables.specs.Read.{filled, colour_number}
use Rattle.tables.proofs.Words.{passed, below_or_not}
use Rattle.tables.proofs.Colours.{shared_number, number_append}
use Rattle.tables.proofs.Filled.{filled_at, filled_agree, filled_next}
use Rattle.closure.proofs.Running.Vertices.{added_vertex, vertex_given, vertex_same}
use Rattle.closure.specs.Graph.{Graph, label}
use Rattle.closure.specs.declared.Edge.{Edge}
use Rattle.closure.specs.declared.EdgeKind.{EdgeKind}
use Rattle.closure.specs.Steps.{State, table_of, vertex, with_edge}
use Rattle.graphs.specs.Layout.{edges_of, labels_of}
use Rattle.running.specs.Shown.{padded, column, Shows, with_term}
use Rattle.graphs.specs.declared.graph.Graph.{Graph as Kept}
use Rattle.running.specs.declared.state.State.{State as Arrays}
use Rattle.graphs.proofs.LabelArray.{label_at, labels_edge}

-- the rule by which one edge changes a label
abbrev pub relabelling : List ℕ → ℕ → ℕ → ℕ → ℕ
relabelling labels left right x = cond (eqb x (get_or labels right 0)) (get_or labels left 0) x

module _ (ts : List Term) (ls : List Literal) (st : State) (s : Arrays) (h : Shows ts ls st s) where
  -- the label of a term stands in its place
  pub shown_label : (v : ℕ) → v < 511 → get_or s.labels v 0 ≡ label st.graph v
  shown_label v l = ap (λ (xs : List ℕ). get_or xs v 0) h.labels ∙ label_at st.graph v 0 l

  -- so does what else is said of a term
  pub shown_symbol : (v : ℕ) → v < length (table_of ts st) → get_or s.symbols v 0 ≡ (term_at (table_of ts st) v).symbol
  shown_symbol v l = ap (λ (xs : List ℕ). get_or xs v 0) h.symbols ∙ filled_at (λ k. (term_at (table_of ts st) k).symbol) 511 0 (length (table_of ts st)) v 0 l h.within

  pub shown_arity : (v : ℕ) → v < length (table_of ts st) → get_or s.arities v 0 ≡ length (term_at (table_of ts st) v).arguments
  shown_arity v l = ap (λ (xs : List ℕ). get_or xs v 0) h.arities ∙ filled_at (λ k. length (term_at (table_of ts st) k).arguments) 511 0 (length (table_of ts st)) v 0 l h.within

  pub shown_row : (v : ℕ) → v < length (table_of ts st) → get_or s.rows v [] ≡ padded (term_at (table_of ts st) v).arguments
  shown_row v l = ap (λ (xs : List (List ℕ)). get_or xs v []) h.rows ∙ filled_at (λ k. padded (term_at (table_of ts st) k).arguments) 511 (padded []) (length (table_of ts st)) v [] l h.within

  pub shown_colour : (v : ℕ) → v < length (table_of ts st) → get_or s.colours v 0 ≡ colour_number ts ls (table_of ts st) v
  shown_colour v l = ap (λ (xs : List ℕ). get_or xs v 0) h.colours ∙ filled_at (colour_number ts ls (table_of ts st)) 511 0 (length (table_of ts st)) v 0 l h.within

  pub shown_vertex : (v : ℕ) → v < length (table_of ts st) → get_or s.vertices v false ≡ vertex ts ls st v
  shown_vertex v l = ap (λ (xs : List Bool). get_or xs v false) h.vertices ∙ filled_at (vertex ts ls st) 511 false (length (table_of ts st)) v false l h.within

  -- a given term is a term of the table
  pub given_within : (v : ℕ) → v < length ts → v < length (table_of ts st)
  given_within v l = omega (arith, length-append ts st.added)

  -- a given term is a vertex where it is in use
  pub shown_in_use : (v : ℕ) → v < length ts → get_or s.vertices v false ≡ is_in_use ts ls v
  shown_in_use v l = shown_vertex v (given_within v l) ∙ vertex_given ts ls st v l

  -- the used fields of a term's row are its arguments
  pub shown_arguments : (v : ℕ) → v < length (table_of ts st) → (n : ℕ) → n ≡ length (term_at (table_of ts st) v).arguments → take n (get_or s.rows v []) ≡ (term_at (table_of ts st) v).arguments
  unfolding padded
  shown_arguments v l n e =
      let xs = (term_at (table_of ts st) v).arguments in
      ap₂ (λ (k : ℕ) (r : List ℕ). take k r) e (shown_row v l) ∙ take-append_seam xs (replicate (4 - length xs) 0)

  -- the labels as the rule changes them are those of one edge more
  pub shown_labels : (e : Edge) → e.left < 511 → e.right < 511 → map (relabelling s.labels e.left e.right) s.labels ≡ labels_of (e ∷ st.graph)
  shown_labels e l r =
      ap (λ (xs : List ℕ). map (relabelling s.labels e.left e.right) xs) h.labels ∙
      ap₂ (λ (from to : ℕ). map (λ x. cond (eqb x from) to x) (labels_of st.graph)) (shown_label e.right r) (shown_label e.left l) ∙
      labels_edge e st.graph

  -- one edge more
  pub shows_edge : (left right : ℕ) (colour : Side) (kind : EdgeKind) (g : Kept) (labels : List ℕ) → left < 511 → right < 511 → edges_of g ≡ record { left = left; right = right; colour = colour; kind = kind } ∷ edges_of s.graph → g.count ≡ s.graph.count + 1 → labels ≡ map (relabelling s.labels left right) s.labels → Shows ts ls (with_edge st left right colour kind) (record s { graph = g; labels = labels })
  shows_edge left right colour kind g labels l r edges count new =
      let e : Edge = record { left = left; right = right; colour = colour; kind = kind } in
      record {
        within = h.within;
        terms = h.terms;
        symbols = h.symbols;
        arities = h.arities;
        rows = h.rows;
        colours = h.colours;
        vertices = h.vertices ∙ filled_agree 511 false (length (table_of ts st)) (vertex ts ls st) (vertex ts ls (with_edge st left right colour kind)) (λ v w. vertex_same ts ls st (with_edge st left right colour kind) refl v);
        edges = edges ∙ ap (λ (G : Graph). e ∷ G) h.edges;
        count = count ∙ add-one s.graph.count ∙ ap suc h.count;
        labels = new ∙ shown_labels e l r;
      }

-- ---- one term more

module _ (ts : List Term) (ls : List Literal) (st : State) (m : Term) where
  -- the table with the added term behind
  table_more : table_of ts (with_term st m) ≡ table_of ts st ++ (m ∷ [])
  table_more = sym (append_assoc ts st.added (m ∷ []))

  length_more : length (table_of ts (with_term st m)) ≡ length (table_of ts st) + 1
  length_more = ap length table_more ∙ length-append (table_of ts st) (m ∷ [])

  -- the terms before it stay
  term_before : (k : ℕ) → k < length (table_of ts st) → term_at (table_of ts st) k ≡ term_at (table_of ts (with_term st m)) k
  term_before k h = sym (ap (λ (table : List Term). term_at table k) table_more ∙ get_or-append (table_of ts st) (m ∷ []) no_term k h)

  -- it has the next number
  term_new : m ≡ term_at (table_of ts (with_term st m)) (length (table_of ts st))
  term_new = sym (ap (λ (table : List Term). term_at table (length (table_of ts st))) table_more ∙ get_or_at (table_of ts st) m [] no_term (length (table_of ts st)) refl)

  -- an array that says something of each term, with one place more
  column_more {ℓ} : {X : Type ℓ} (filler : X) (f g : ℕ → X) (x : X) → length (table_of ts st) < 511 → ((k : ℕ) → k < length (table_of ts st) → f k ≡ g k) → x ≡ g (length (table_of ts st)) → set (column filler (table_of ts st) f) (length (table_of ts st)) x ≡ column filler (table_of ts (with_term st m)) g
  column_more filler f g x h same e =
      filled_next 511 filler (length (table_of ts st)) f g x h same e ∙ ap (λ (k : ℕ). filled 511 filler k g) (sym length_more)

  -- a term behind the given ones is a vertex then
  added_passes : (k : ℕ) → length ts ≤ k → k < length (table_of ts (with_term st m)) → vertex ts ls (with_term st m) k ≡ true
  added_passes k l h = passed (vertex ts ls (with_term st m) k) (added_vertex ts ls (with_term st m) k l h)

  -- what was a vertex is one, and nothing else
  vertex_before : (k : ℕ) → k < length (table_of ts st) → vertex ts ls st k ≡ vertex ts ls (with_term st m) k
  vertex_before k h =
      ⊎_elim (λ (l : k < length ts). vertex_given ts ls st k l ∙ sym (vertex_given ts ls (with_term st m) k l))
      (λ (l : length ts ≤ k). passed (vertex ts ls st k) (added_vertex ts ls st k l h) ∙ sym (added_passes k l (omega (arith, length_more))))
      (below_or_not k (length ts))

  -- the added term is a vertex
  vertex_new : true ≡ vertex ts ls (with_term st m) (length (table_of ts st))
  vertex_new = sym (added_passes (length (table_of ts st)) (omega (arith, length-append ts st.added)) (omega (arith, length_more)))

-- the arrays with one term more at a place
abbrev pub enlarged : Arrays → ℕ → ℕ → List ℕ → ℕ → Arrays
enlarged s symbol arity row n =
    record s { terms = n + 1; symbols = set s.symbols n symbol; arities = set s.arities n arity; rows = set s.rows n row; colours = set s.colours n 3; vertices = set s.vertices n true }

pub shows_term : (ts : List Term) (ls : List Literal) (st : State) (s : Arrays) (m : Term) (symbol arity : ℕ) (row : List ℕ) → s.terms < 511 → Shows ts ls st s → LowerArguments (table_of ts st) → m.symbol ≡ symbol → length m.arguments ≡ arity → row ≡ padded m.arguments → T (shared ts ls (table_of ts st ++ (m ∷ [])) (length (table_of ts st))) → Shows ts ls (with_term st m) (enlarged s symbol arity row s.terms)
shows_term ts ls st s m symbol arity row small h lower symbol_is arity_is row_is shared-is =
    let n = length (table_of ts st) in
    let more = table_of ts (with_term st m) in
    let fits : n < 511 = omega (arith, h.terms) in
    let before : (k : ℕ) → k < n → term_at (table_of ts st) k ≡ term_at more k = term_before ts ls st m in
    let new = term_new ts ls st m in
    record {
      within = omega (arith, length_more ts ls st m);
      terms = ap (λ (k : ℕ). k + 1) h.terms ∙ sym (length_more ts ls st m);
      symbols =
          ap₂ (λ (xs : List ℕ) (k : ℕ). set xs k symbol) h.symbols h.terms ∙
          column_more ts ls st m 0 _ (λ v. (term_at more v).symbol) symbol fits (λ k l. ap (λ (t : Term). t.symbol) (before k l)) (sym symbol_is ∙ ap (λ (t : Term). t.symbol) new);
      arities =
          ap₂ (λ (xs : List ℕ) (k : ℕ). set xs k arity) h.arities h.terms ∙
          column_more ts ls st m 0 _ (λ v. length (term_at more v).arguments) arity fits (λ k l. ap (λ (t : Term). length t.arguments) (before k l)) (sym arity_is ∙ ap (λ (t : Term). length t.arguments) new);
      rows =
          ap₂ (λ (xs : List (List ℕ)) (k : ℕ). set xs k row) h.rows h.terms ∙
          column_more ts ls st m (padded []) _ (λ v. padded (term_at more v).arguments) row fits (λ k l. ap (λ (t : Term). padded t.arguments) (before k l)) (row_is ∙ ap (λ (t : Term). padded t.arguments) new);
      colours =
          ap₂ (λ (xs : List ℕ) (k : ℕ). set xs k 3) h.colours h.terms ∙
          column_more ts ls st m 0 _ (colour_number ts ls more) 3 fits
          (λ k l. sym (ap (λ (table : List Term). colour_number ts ls table k) (table_more ts ls st m) ∙ number_append ts ls (table_of ts st) (m ∷ []) lower k l))
          (sym (ap (λ (table : List Term). colour_number ts ls table n) (table_more ts ls st m) ∙ shared_number ts ls (table_of ts st ++ (m ∷ [])) n shared-is));
      vertices =
          ap₂ (λ (xs : List Bool) (k : ℕ). set xs k true) h.vertices h.terms ∙
          column_more ts ls st m false _ (vertex ts ls (with_term st m)) true fits (vertex_before ts ls st m) (vertex_new ts ls st m);
      edges = h.edges;
      count = h.count;
      labels = h.labels;
    }

-- The searches of the verdict, by the arrays: what the code tests of a record or a term is what the definitions test.
use Rattle.std.proofs.Common.{Option, unwrap_or}
use mathlib.Core.Bool.{Bool, true, false, cond, not, ◌&&◌}
use mathlib.Core.List.{List, flat_map}
use mathlib.Core.Path.{◌≡◌, refl, sym, ap, ap₂, ◌∙◌}
use Prim.Native.Nat.{ℕ, ◌<◌}
use native.Mathlib.Omega.{arith}
use lib.Dec.{eqb}
use lib.ListN.{length, get_or}
use Rattle.tables.specs.Words.{below, first_below}
use Rattle.tables.specs.Bytes.{word_bytes}
use Rattle.tables.specs.TermTable.{term_count}
use Rattle.tables.specs.LiteralTable.{is_equal, literal_count, literal_record, literal_of}
use Rattle.tables.specs.declared.Literal.{Literal}
use Rattle.tables.specs.Colours.{is_in_use}
use Rattle.tables.specs.Read.{sound_tables}
use Rattle.tables.specs.declared.Tables.{Tables}
use Rattle.tables.proofs.Words.{below_mem, first_below_agree, flat_map_agree}
use Rattle.tables.proofs.Filled.{filled_at}
use Rattle.tables.proofs.Sound.{length_terms_of}
use Rattle.closure.specs.Graph.{label, joined}
use Rattle.running.specs.declared.state.State.{State as Arrays}
use Rattle.running.proofs.Beginning.{sound_tables_is, read_sound, terms_are, terms_fit}
use Rattle.running.proofs.BasicSteps.{length_literals, literal_is, sides_small}
use Rattle.running.proofs.Showing.{shown_label}
use Rattle.closure.proofs.Walking.Joined.{joined_by}
use Rattle.clauses.specs.Reading.{contradicted, critical}
use Rattle.clauses.proofs.Critical.{contradicted_by, critical_by}
use Rattle.demands.specs.Buffers.{class_number, partition_bytes}
use Rattle.engine.specs.Ending.{Ends, terms_in, literals_in, met_by, class_by}

module _ (t : Tables) (s : Arrays) (w : Ends t s) where
  -- the label of a term is in its place
  label_in : (v : ℕ) → v < 511 → get_or s.labels v 0 ≡ label w.state.graph v
  label_in = shown_label (terms_in w.from) (literals_in w.from) w.state s w.shows

  abbrev bs : List ℕ
  bs = w.from.terms

  abbrev ls : List ℕ
  ls = w.from.literals

  -- the test that the code makes of a record is whether it is contradicted
  met_is : (i : ℕ) → i < literal_count ls → met_by ls s.labels i ≡ contradicted (literals_in w.from) w.state.graph i
  met_is i h =
      let G = w.state.graph in
      let l = literal_of (literal_record ls i) in
      let small = sides_small bs ls w.from.sound i h refl in
      ap (λ (b : Bool). not (is_equal l.kind) && b)
      (ap₂ eqb (label_in l.left (omega (arith, small.0))) (label_in l.right (omega (arith, small.1))) ∙ sym (joined_by G l.left l.right)) ∙
      ap (λ (x : Literal). not (is_equal x.kind) && joined G x.left x.right) (literal_is bs ls w.from.sound i h refl) ∙
      sym (contradicted_by (literals_in w.from) G i)

  -- so the first record of the literals that are lent which meets the test is the critical one
  pub met_first : (literals : List ℕ) → ls ≡ literals → first_below (met_by literals s.labels) (literal_count literals) ≡ critical (literals_in w.from) w.state.graph
  met_first literals e =
      ap (λ (x : List ℕ). first_below (met_by x s.labels) (literal_count x)) (sym e) ∙
      first_below_agree (met_by ls s.labels) (contradicted (literals_in w.from) w.state.graph) (literal_count ls) met_is ∙
      ap (first_below (contradicted (literals_in w.from) w.state.graph)) (sym (length_literals bs ls w.from.sound)) ∙
      sym (critical_by (literals_in w.from) w.state.graph)

-- ---- class numbers

-- the test that the code makes of a term: it is in use, and has the label of t
abbrev pub alike : List Bool → List ℕ → ℕ → ℕ → Bool
alike used labels t u = get_or used u false && eqb (get_or labels u 0) (get_or labels t 0)

module _ (used : List Bool) (labels : List ℕ) (n t : ℕ) where
  -- a term that is not in use
  pub class_idle_by : get_or used t false ≡ false → 65535 ≡ class_by used labels n t
  unfolding class_by
  class_idle_by e = sym (ap (λ (b : Bool). cond b (unwrap_or (first_below (alike used labels t) n) 65535) 65535) e)

  -- a term in use
  pub class_used_by : get_or used t false ≡ true → (o : Option ℕ) → o ≡ first_below (alike used labels t) n → unwrap_or o 65535 ≡ class_by used labels n t
  unfolding class_by
  class_used_by e o q = ap (λ (x : Option ℕ). unwrap_or x 65535) q ∙ sym (ap (λ (b : Bool). cond b (unwrap_or (first_below (alike used labels t) n) 65535) 65535) e)

module _ (t : Tables) (s : Arrays) (w : Ends t s) where
  -- as many terms as there are records
  pub count_is : t.terms ≡ length (terms_in w.from)
  count_is = terms_are t w.from ∙ sym (length_terms_of w.from.terms)

  -- the mark of a term in use is in its place
  pub used_in : (u : ℕ) → u < t.terms → get_or t.used u false ≡ is_in_use (terms_in w.from) (literals_in w.from) u
  unfolding sound_tables
  used_in u h =
      let count = term_count w.from.terms in
      ap (λ (x : Tables). get_or x.used u false) (read_sound t w.from) ∙
      filled_at (is_in_use (terms_in w.from) (literals_in w.from)) 256 false count u false
      (omega (arith, terms_are t w.from)) (sound_tables_is t w.from).terms_fit

  -- so the class number by the arrays is that of the definitions
  pub class_is : (k : ℕ) → k < t.terms → class_by t.used s.labels t.terms k ≡ class_number (terms_in w.from) (literals_in w.from) w.state.graph k
  unfolding class_by class_number
  class_is k h =
      let ts = terms_in w.from in
      let ls = literals_in w.from in
      let G = w.state.graph in
      let few = terms_fit t w.from in
      ap₂ (λ (b : Bool) (o : Option ℕ). cond b (unwrap_or o 65535) 65535) (used_in k h)
      (first_below_agree (alike t.used s.labels k) (λ u. is_in_use ts ls u && joined G u k) t.terms
      (λ u l. ap₂ (λ (x y : Bool). x && y) (used_in u l) (ap₂ eqb (label_in t s w u (omega arith)) (label_in t s w k (omega arith)) ∙ sym (joined_by G u k))) ∙
      ap (first_below (λ u. is_in_use ts ls u && joined G u k)) count_is)

  -- and the words of all class numbers are the bytes of the partition
  pub classes_are : flat_map (λ k. word_bytes (class_by t.used s.labels t.terms k)) (below t.terms) ≡ partition_bytes (terms_in w.from) (literals_in w.from) w.state.graph
  unfolding partition_bytes
  classes_are =
      flat_map_agree (λ k. word_bytes (class_by t.used s.labels t.terms k)) (λ k. word_bytes (class_number (terms_in w.from) (literals_in w.from) w.state.graph k)) (below t.terms)
      (λ k m. ap word_bytes (class_is k (below_mem t.terms m))) ∙
      ap (λ (n : ℕ). flat_map (λ k. word_bytes (class_number (terms_in w.from) (literals_in w.from) w.state.graph k)) (below n)) count_is

-- The added terms of a run fit their records: each has the symbol and as many arguments as a given term, and arguments lower than itself.
use mathlib.Core.List.{List, Memᴰ}
use mathlib.Core.Path.{◌≡◌, refl, sym, ap, subst, ◌∙◌}
use Prim.Native.Nat.{ℕ, ◌+◌, ◌*◌, ◌≤◌, ◌<◌}
use native.Mathlib.Omega.{arith}
use lib.Dec.{T, lit<}
use lib.ListN.{length, get_or, drop, length-append, length-map, length-take}
use lib.Seq.{get_or-take, get_or-drop, get_or-append-add}
use Rattle.tables.specs.Terms.{Term, no_term, term_at}
use Rattle.tables.specs.TermTable.{term_count, term_record, symbol_field, arity_field, term_of, terms_of}
use Rattle.tables.specs.LiteralTable.{literals_of}
use Rattle.tables.proofs.Words.{mem_get_d}
use Rattle.tables.specs.Bytes.{AllBytes}
use Rattle.tables.proofs.Terms.{term_at_append}
use Rattle.tables.proofs.Colours.{in_use_within}
use Rattle.tables.proofs.Sound.{SoundTables, length_terms_of, term_at_terms_of, arity_small, lower_arguments, sides_within}
use Rattle.closure.specs.Graph.{Graph, joined_pairwise}
use Rattle.tables.proofs.WordBytes.{byte_small}
use Rattle.closure.specs.Steps.{State, table_of, Run}
use Rattle.closure.proofs.Running.Congruent.{pairwise_agree, congruent_symbol, congruent_arguments}
use Rattle.closure.proofs.Running.Vertices.{added_vertex}
use Rattle.closure.proofs.Running.Runs.{run_sound, run_known}
use Rattle.closure.proofs.Running.FewSteps.{few_added}
use Rattle.demands.proofs.AddedTerms.{TermFits}

-- a symbol field fits two bytes
symbol_small : (bs : List ℕ) → AllBytes bs → (k : ℕ) → symbol_field (term_record bs k) < 65536
symbol_small bs all k =
    let at : (i : ℕ) → i < 16 → get_or (term_record bs k) i 0 < 256 = λ i h. subst (λ (b : ℕ). b < 256) (sym (get_or-take 16 (drop (16 * k) bs) i 0 h ∙ get_or-drop (16 * k) bs i 0)) (byte_small bs all (16 * k + i)) in
    omega (arith, at 0 (lit< tt), at 1 (lit< tt))

-- lists that are joined pair by pair have one length
pairwise_length : (G : Graph) (xs ys : List ℕ) → T (joined_pairwise G xs ys) → length xs ≡ length ys
pairwise_length G xs ys h =
    let none : ℕ → ℕ = λ x. 0 in
    sym (length-map xs none) ∙ ap length (pairwise_agree G none (λ x y j. refl) xs ys h) ∙ length-map ys none

module _ (terms literals : List ℕ) (good : SoundTables terms literals) (bytes : AllBytes terms) where
  -- a given term fits
  given_symbol : (s : ℕ) → s < length (terms_of terms) → (term_at (terms_of terms) s).symbol < 65536
  unfolding term_of
  given_symbol s h = subst (λ (m : Term). m.symbol < 65536) (sym (term_at_terms_of terms s (subst (λ (n : ℕ). s < n) (length_terms_of terms) h))) (symbol_small terms bytes s)

  given_few : (s : ℕ) → s < length (terms_of terms) → length (term_at (terms_of terms) s).arguments ≤ 4
  unfolding term_of
  given_few s h =
      let w : s < term_count terms = subst (λ (n : ℕ). s < n) (length_terms_of terms) h in
      subst (λ (m : Term). length m.arguments ≤ 4) (sym (term_at_terms_of terms s w)) (omega (arith, length-take (arity_field (term_record terms s)) (Rattle.tables.specs.TermTable.row_of (term_record terms s)), arity_small terms literals good s w))

  -- an added term fits
  pub added_fits : {k : ℕ} {st : State} → Run (terms_of terms) (literals_of literals) k st → (m : Term) → Memᴰ m st.added → TermFits m
  added_fits {st = st} run m stands =
      let ts = terms_of terms in
      let ls = literals_of literals in
      let low = lower_arguments terms literals good in
      let within = sides_within terms literals good in
      let found = mem_get_d no_term stands in
      let v = length ts + found.0 in
      let many = length-append ts st.added in
      let v-in : v < length (table_of ts st) = omega (arith, many, found.1) in
      let is : term_at (table_of ts st) v ≡ m = get_or-append-add ts st.added found.0 no_term ∙ found.2 in
      let known = run_known ts ls low within run v (added_vertex ts ls st v (omega arith) v-in) in
      let s = known.0 in
      let s-in = in_use_within ts ls low within s known.1 in
      let same = term_at_append ts st.added s s-in in
      let few : length ts ≤ 256 = subst (λ (n : ℕ). n ≤ 256) (sym (length_terms_of terms)) good.terms_fit in
      let added_few = few_added ts ls low within few run in
      subst TermFits is
      (record {
        few = subst (λ (n : ℕ). n ≤ 4) (sym (ap (λ (x : Term). length x.arguments) same) ∙ pairwise_length st.graph (term_at (table_of ts st) s).arguments (term_at (table_of ts st) v).arguments (congruent_arguments (table_of ts st) st.graph s v known.3)) (given_few s s-in);
        symbol_fits = subst (λ (n : ℕ). n < 65536) (sym (ap (λ (x : Term). x.symbol) same) ∙ congruent_symbol (table_of ts st) st.graph s v known.3) (given_symbol s s-in);
        arguments_fit = λ a mem. omega (arith, (run_sound ts ls low within run).lower v v-in a mem, added_few, many, few);
      })

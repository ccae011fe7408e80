-- The test that the search makes of a pair passes where a derived step can be taken on it: so it finds the first such pair.
use Rattle.std.proofs.Common.{Some, None}
use mathlib.Core.Bool.{Bool, true, false, cond, not, ◌&&◌}
use mathlib.Core.List.{List, [], ◌++◌, map, map-append, Memᴰ}
use mathlib.Core.Logic.{⊎_elim}
use mathlib.Core.Path.{◌≡◌, sym, ap, ap₂, subst, ◌∙◌}
use Prim.Native.Nat.{ℕ, ◌+◌, ◌-◌, ◌≤◌, ◌<◌}
use native.Mathlib.Omega.{arith}
use borrow.Author.Tests.{eq-eqb}
use lib.Dec.{T, eqb, eqb→eq}
use lib.ListN.{length, get_or, take, replicate, length-map, get_or-map, get_or-append}
use Rattle.tables.specs.Words.{pair}
use Rattle.tables.specs.Terms.{Term, term_at, no_term}
use Rattle.tables.specs.declared.Literal.{Literal}
use Rattle.tables.specs.Colours.{is_in_use}
use Rattle.tables.proofs.Words.{and_left, and_right, and_both, passed, passes, by_test, below_or_is, mem_get_d}
use Rattle.tables.proofs.Terms.{map_agree}
use Rattle.tables.proofs.Filled.{filled_at}
use Rattle.closure.specs.Graph.{Graph, label, joined, joined_pairwise}
use Rattle.closure.specs.Steps.{State, table_of, congruent}
use Rattle.closure.specs.OwnRun.{derivable, first_pair}
use Rattle.graphs.specs.Layout.{labels_of}
use Rattle.running.specs.Shown.{padded, Shows}
use Rattle.running.specs.Keys.{field_label, key_of, keys_of, candidate, tested, NextFrom, Orderly, OneArity}
use Rattle.running.specs.declared.state.State.{State as Arrays}
use Rattle.graphs.proofs.LabelArray.{label_at}
use Rattle.running.proofs.Showing.{shown_label, shown_symbol, shown_arity, shown_row, shown_in_use, shown_arguments, given_within}
use Rattle.running.proofs.Agreeing.{joined_labels}
use Rattle.running.proofs.FirstPair.{no_pair, first_pair_is}
use Rattle.running.proofs.Candidates.{is_candidate, candidate_parts}

-- ---- passing over pairs in their order

-- no pair of a term below s passes
abbrev pub NoneBelow : ℕ → (ℕ → ℕ → Bool) → ℕ → Type 0
NoneBelow n p s = (a b : ℕ) → a < b → b < n → a < s → T (p a b) → ⊥

-- nor does one of s
pub none_more : (n : ℕ) (p : ℕ → ℕ → Bool) (s : ℕ) → NoneBelow n p s → ((k : ℕ) → s + 1 ≤ k → k < n → T (p s k) → ⊥) → NoneBelow n p (s + 1)
none_more n p s f g a b h l w q =
    ⊎_elim
    (λ (y : a < s). f a b h l y q)
    (λ (y : a ≡ s). g b (omega arith) l (subst (λ (k : ℕ). T (p k b)) y q))
    (below_or_is a s (omega arith))

-- ---- keys of congruent terms

-- rows whose fields have the same labels have one key
key_agree : (labels : List ℕ) (symbol : ℕ) (xs ys : List ℕ) → ((j : ℕ) → field_label labels xs j ≡ field_label labels ys j) → key_of labels symbol xs ≡ key_of labels symbol ys
unfolding key_of
key_agree labels symbol xs ys h = omega (arith, h 0, h 1, h 2, h 3)

-- arguments that are joined pair by pair make such rows
pub padded_agree : (G : Graph) (xs ys : List ℕ) → ((a : ℕ) → Memᴰ a xs → a < 511) → ((a : ℕ) → Memᴰ a ys → a < 511) → T (joined_pairwise G xs ys) → (j : ℕ) → field_label (labels_of G) (padded xs) j ≡ field_label (labels_of G) (padded ys) j
unfolding padded
padded_agree G xs ys f g h j =
    let lab : ℕ → ℕ = λ a. get_or (labels_of G) a 0 in
    let same : map (label G) xs ≡ map (label G) ys = joined_labels G xs ys h in
    let len : length xs ≡ length ys = sym (length-map xs (label G)) ∙ ap length same ∙ length-map ys (label G) in
    let e : map lab xs ≡ map lab ys =
    map_agree lab (label G) xs (λ a m. label_at G a 0 (f a m)) ∙ same ∙ sym (map_agree lab (label G) ys (λ a m. label_at G a 0 (g a m))) in
    sym (get_or-map lab (xs ++ replicate (4 - length xs) 0) j 0) ∙
    ap (λ (l : List ℕ). get_or l j (lab 0))
    (map-append lab xs (replicate (4 - length xs) 0) ∙
    ap₂ (λ (l : List ℕ) (k : ℕ). l ++ map lab (replicate (4 - k) 0)) e len ∙
    sym (map-append lab ys (replicate (4 - length ys) 0))) ∙
    get_or-map lab (ys ++ replicate (4 - length ys) 0) j 0

-- ---- the test of a pair

module _ (ts : List Term) (ls : List Literal) (st : State) (s : Arrays) (shows : Shows ts ls st s) (orderly : Orderly s) (given : ℕ) (all : given ≡ length ts) (few : given ≤ 256) (keys : List ℕ) (keys-are : keys ≡ keys_of given s) where
  abbrev arguments : ℕ → List ℕ
  arguments v = (term_at (table_of ts st) v).arguments

  -- a given term, as the arrays number it
  in_table : (v : ℕ) → v < given → v < length (table_of ts st)
  in_table v l = given_within ts ls st s shows v (omega arith)

  -- its arguments are numbers of the label array
  arguments_within : (v : ℕ) → v < given → (a : ℕ) → Memᴰ a (arguments v) → a < 511
  unfolding padded
  arguments_within v l a m =
      let r = mem_get_d 0 m in
      let small : length (arguments v) ≤ 4 = omega (arith, orderly.arities v (omega arith), shown_arity ts ls st s shows v (in_table v l)) in
      let e : get_or (get_or s.rows v []) r.0 0 ≡ a =
      ap (λ (row : List ℕ). get_or row r.0 0) (shown_row ts ls st s shows v (in_table v l)) ∙
      get_or-append (arguments v) (replicate (4 - length (arguments v)) 0) 0 r.0 r.1 ∙ r.2 in
      subst (λ (k : ℕ). k < 511) e ((orderly.rows v (omega arith)).1 r.0 (omega (arith, r.1)))

  -- the key of a given term
  key_at : (v : ℕ) → v < given → get_or keys v 0 ≡ cond (is_in_use ts ls v) (key_of (labels_of st.graph) (term_at (table_of ts st) v).symbol (padded (arguments v)) + 1) 0
  unfolding keys_of
  key_at v l =
      ap (λ (ks : List ℕ). get_or ks v 0) keys-are ∙
      filled_at (λ t. cond (get_or s.vertices t false) (key_of s.labels (get_or s.symbols t 0) (get_or s.rows t []) + 1) 0) 256 0 given v 0 l few ∙
      ap₂ (λ (b : Bool) (k : ℕ). cond b (k + 1) 0) (shown_in_use ts ls st s shows v (omega arith))
      (ap (λ (labels : List ℕ). key_of labels (get_or s.symbols v 0) (get_or s.rows v [])) shows.labels ∙
      ap₂ (λ (f : ℕ) (row : List ℕ). key_of (labels_of st.graph) f row) (shown_symbol ts ls st s shows v (in_table v l)) (shown_row ts ls st s shows v (in_table v l)))

  -- a term without a key is not in use
  keyed : (v : ℕ) → v < given → (get_or keys v 0 ≡ 0 → ⊥) → T (is_in_use ts ls v)
  keyed v l f =
      by_test (is_in_use ts ls v) (passes (is_in_use ts ls v))
      (λ e. absurd (f (key_at v l ∙ ap (λ (b : Bool). cond b (key_of (labels_of st.graph) (term_at (table_of ts st) v).symbol (padded (arguments v)) + 1) 0) e)))

  -- a given term of the table is the given term
  given_term : (v : ℕ) → v < given → term_at (table_of ts st) v ≡ term_at ts v
  given_term v l = get_or-append ts st.added no_term v (omega arith)

  -- two terms with one symbol have as many arguments
  one_arity : OneArity ts → (a b : ℕ) → a < given → b < given → (term_at (table_of ts st) a).symbol ≡ (term_at (table_of ts st) b).symbol → length (arguments a) ≡ length (arguments b)
  one_arity one a b h l e =
      ap (λ (t : Term). length t.arguments) (given_term a h) ∙
      one a b (omega arith) (omega arith) (sym (ap (λ (t : Term). t.symbol) (given_term a h)) ∙ e ∙ ap (λ (t : Term). t.symbol) (given_term b l)) ∙
      sym (ap (λ (t : Term). length t.arguments) (given_term b l))

  -- the rows of two terms with as many arguments say whether these are joined
  rows_joined : (a b : ℕ) → a < given → b < given → length (arguments a) ≡ length (arguments b) → joined_pairwise st.graph (take (get_or s.arities a 0) (get_or s.rows a [])) (take (get_or s.arities a 0) (get_or s.rows b [])) ≡ joined_pairwise st.graph (arguments a) (arguments b)
  rows_joined a b h l e =
      let n = shown_arity ts ls st s shows a (in_table a h) in
      ap₂ (joined_pairwise st.graph)
      (shown_arguments ts ls st s shows a (in_table a h) (get_or s.arities a 0) n)
      (shown_arguments ts ls st s shows b (in_table b l) (get_or s.arities a 0) (n ∙ e))

  -- the test of the search, over the arrays
  abbrev pub test : ℕ → ℕ → Bool
  test = tested keys s st.graph

  module _ (a b : ℕ) (h : a < given) (l : b < given) where
    abbrev G : Graph
    G = st.graph

    -- a pair on which a derived step can be taken passes the test
    pub derivable_tested : T (derivable ts ls st (pair a b)) → T (test a b)
    unfolding derivable congruent joined
    derivable_tested d =
        let alike = eqb (term_at (table_of ts st) a).symbol (term_at (table_of ts st) b).symbol in
        let args = joined_pairwise G (arguments a) (arguments b) in
        let used = is_in_use ts ls a && is_in_use ts ls b in
        let apart = not (eqb (label G a) (label G b)) in
        let first = and_left (alike && args && used) apart d in
        let pair_is = and_left (alike && args) used first in
        let symbols : (term_at (table_of ts st) a).symbol ≡ (term_at (table_of ts st) b).symbol = eqb→eq _ _ (and_left alike args pair_is) in
        let joined-args = and_right alike args pair_is in
        let both = and_right (alike && args) used first in
        let len : length (arguments a) ≡ length (arguments b) =
        sym (length-map (arguments a) (label G)) ∙ ap length (joined_labels G (arguments a) (arguments b) joined-args) ∙ length-map (arguments b) (label G) in
        let key-a : get_or keys a 0 ≡ key_of (labels_of G) (term_at (table_of ts st) a).symbol (padded (arguments a)) + 1 =
        key_at a h ∙ ap (λ (t : Bool). cond t (key_of (labels_of G) (term_at (table_of ts st) a).symbol (padded (arguments a)) + 1) 0) (passed (is_in_use ts ls a) (and_left (is_in_use ts ls a) (is_in_use ts ls b) both)) in
        let key-b : get_or keys b 0 ≡ key_of (labels_of G) (term_at (table_of ts st) b).symbol (padded (arguments b)) + 1 =
        key_at b l ∙ ap (λ (t : Bool). cond t (key_of (labels_of G) (term_at (table_of ts st) b).symbol (padded (arguments b)) + 1) 0) (passed (is_in_use ts ls b) (and_right (is_in_use ts ls a) (is_in_use ts ls b) both)) in
        let one_key : get_or keys a 0 ≡ get_or keys b 0 =
        key-a ∙
        ap (λ (k : ℕ). k + 1)
        (ap (λ (f : ℕ). key_of (labels_of G) f (padded (arguments a))) symbols ∙
        key_agree (labels_of G) (term_at (table_of ts st) b).symbol (padded (arguments a)) (padded (arguments b))
        (padded_agree G (arguments a) (arguments b) (arguments_within a h) (arguments_within b l) joined-args)) ∙
        sym key-b in
        let shown-symbols : get_or s.symbols a 0 ≡ get_or s.symbols b 0 =
        shown_symbol ts ls st s shows a (in_table a h) ∙ symbols ∙ sym (shown_symbol ts ls st s shows b (in_table b l)) in
        let shown-apart : not (eqb (get_or s.labels a 0) (get_or s.labels b 0)) ≡ true =
        ap₂ (λ (x y : ℕ). not (eqb x y)) (shown_label ts ls st s shows a (omega arith)) (shown_label ts ls st s shows b (omega arith)) ∙
        passed apart (and_right (alike && args && used) apart d) in
        and_both (candidate keys s a b) _
        (is_candidate keys s a b (λ z. omega arith) one_key
        (ap₂ (λ (x y : Bool). x && y) (eq-eqb (get_or s.symbols a 0) (get_or s.symbols b 0) shown-symbols) shown-apart))
        (subst T (sym (rows_joined a b h l len)) joined-args)

    -- and on a pair that passes it one can be taken
    pub tested_derivable : OneArity ts → T (test a b) → T (derivable ts ls st (pair a b))
    unfolding derivable congruent joined
    tested_derivable one w =
        let alike = eqb (term_at (table_of ts st) a).symbol (term_at (table_of ts st) b).symbol in
        let args = joined_pairwise G (arguments a) (arguments b) in
        let used = is_in_use ts ls a && is_in_use ts ls b in
        let apart = not (eqb (label G a) (label G b)) in
        let found = candidate keys s a b in
        let is = and_left found _ w in
        let parts = candidate_parts keys s a b is in
        let symbols : (term_at (table_of ts st) a).symbol ≡ (term_at (table_of ts st) b).symbol =
        sym (shown_symbol ts ls st s shows a (in_table a h)) ∙ parts.2 ∙ shown_symbol ts ls st s shows b (in_table b l) in
        let joined-args : T args = subst T (rows_joined a b h l (one_arity one a b h l symbols)) (and_right found _ w) in
        let both : T used = and_both (is_in_use ts ls a) (is_in_use ts ls b) (keyed a h parts.0) (keyed b l (λ z. parts.0 (parts.1 ∙ z))) in
        let labels_apart : T apart =
        subst T
        (ap₂ (λ (x y : ℕ). not (eqb x y)) (shown_label ts ls st s shows a (omega arith)) (shown_label ts ls st s shows b (omega arith)))
        parts.3 in
        and_both (alike && args && used) apart
        (and_both (alike && args) used (and_both alike args (passes alike (eq-eqb _ _ symbols)) joined-args) both) labels_apart

  -- the pair that is found is the first
  pub found_first : OneArity ts → (a b : ℕ) → NextFrom (test a) (a + 1) given (Some b) → NoneBelow given test a → Some (pair a b) ≡ first_pair ts ls st
  unfolding first_pair
  found_first one a b (h, l, w, none_here) none_yet =
      sym
      (first_pair_is (length ts) (derivable ts ls st) a b (omega arith) (omega arith) (tested_derivable a b (omega arith) l one w)
      (λ x y k m before d. let q = derivable_tested x y (omega arith) (omega arith) d in
      ⊎_elim
      (λ (z : x < a). none_yet x y k (omega arith) z q)
      (λ z. none_here y (omega (arith, z.0)) z.1 (subst (λ (i : ℕ). T (test i y)) z.0 q))
      before))

  -- nothing is found where there is none
  pub found_none : (a : ℕ) → given ≤ a → NoneBelow given test a → None ≡ first_pair ts ls st
  unfolding first_pair
  found_none a h none_yet =
      sym
      (no_pair (length ts) (derivable ts ls st)
      (λ x y k m d. none_yet x y k (omega arith) (omega arith) (derivable_tested x y (omega arith) (omega arith) d)))

-- a pair that passes is a candidate
pub tested_candidate : (keys : List ℕ) (st : Arrays) (G : Graph) (a b : ℕ) → T (tested keys st G a b) → T (candidate keys st a b)
tested_candidate keys st G a b w = and_left (candidate keys st a b) _ w

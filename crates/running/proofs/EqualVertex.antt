-- The search for the vertex that equals the middle term, and the middle term in its place.
use Rattle.std.specs.Option.{MatchOption}
use Rattle.std.proofs.Common.{Option, Some, None}
use mathlib.Core.Bool.{Bool, false, ◌&&◌}
use mathlib.Core.List.{List, []}
use mathlib.Core.Path.{◌≡◌, refl, sym, ap, ap₂, subst, ◌∙◌}
use Prim.Native.Nat.{ℕ, ◌+◌, ◌-◌, ◌≤◌, ◌<◌}
use native.Mathlib.Omega.{arith}
use lib.Dec.{T, eqb}
use lib.ListN.{length, get_or, take, replicate, length-append, length-replicate}
use lib.Seq.{take-append_seam}
use Rattle.tables.specs.Words.{same, below}
use Rattle.tables.specs.Terms.{Term, term_at}
use Rattle.tables.proofs.Words.{and_left, and_right, and_both, passed, passes, same_self, below_mem, first_is, none_first_of}
use Rattle.tables.proofs.Tests.{eq_test}
use Rattle.closure.specs.Steps.{table_of, vertex, equal_terms, vertex_equal, place_as, placed}
use Rattle.running.specs.Shown.{padded, Shows}
use Rattle.running.specs.Stepping.{Placing, Alike}
use Rattle.running.specs.declared.state.State.{State as Arrays}
use Rattle.running.proofs.Showing.{shown_symbol, shown_arity, shown_row, shown_vertex, enlarged, shows_term}
use Rattle.closure.proofs.Running.MiddleStep.{equal_terms_is}

-- ---- rows

-- a row has four fields
pub padded_length : (xs : List ℕ) → length xs ≤ 4 → length (padded xs) ≡ 4
unfolding padded
padded_length xs h = length-append xs (replicate (4 - length xs) 0) ∙ ap (λ (k : ℕ). length xs + k) (length-replicate (4 - length xs) 0) ∙ omega arith

-- of one length, arguments with the same row are the same
pub padded_same : (xs ys : List ℕ) → length xs ≡ length ys → padded xs ≡ padded ys → xs ≡ ys
unfolding padded
padded_same xs ys e p =
    sym (take-append_seam xs (replicate (4 - length xs) 0)) ∙
    ap₂ (λ (k : ℕ) (l : List ℕ). take k l) e p ∙
    take-append_seam ys (replicate (4 - length ys) 0)

module _ {st : Arrays} {s : ℕ} {row : List ℕ} (p : Placing st s row) where
  -- the table
  abbrev table : List Term
  table = table_of p.ts p.reached

  -- the code counts its terms
  count_is : st.terms ≡ length table
  count_is = p.shows.terms

  -- the test of a vertex
  abbrev pub equals : ℕ → Bool
  equals v = vertex p.ts p.ls p.reached v && equal_terms (term_at table v) p.middle

  module _ (v : ℕ) (h : v < st.terms) where
    -- the term v
    abbrev term : Term
    term = term_at table v

    -- v is a term of it
    within : v < length table
    within = omega (arith, count_is)

    -- the arrays hold its symbol
    symbol_at : get_or st.symbols v 0 ≡ term.symbol
    symbol_at = shown_symbol p.ts p.ls p.reached st p.shows v within

    -- its arity
    arity_at : get_or st.arities v 0 ≡ length term.arguments
    arity_at = shown_arity p.ts p.ls p.reached st p.shows v within

    -- its row
    row_at : get_or st.rows v [] ≡ padded term.arguments
    row_at = shown_row p.ts p.ls p.reached st p.shows v within

    -- and whether it is a vertex
    vertex_at : get_or st.vertices v false ≡ vertex p.ts p.ls p.reached v
    vertex_at = shown_vertex p.ts p.ls p.reached st p.shows v within

    -- what the code finds alike is a vertex that equals the middle term
    alike_equals : Alike st s row v → T (equals v)
    unfolding equal_terms
    alike_equals (symbol, arity, is-vertex, rows) =
        let lengths : length term.arguments ≡ length p.middle.arguments = sym arity_at ∙ arity ∙ sym p.arity_is in
        let arguments : term.arguments ≡ p.middle.arguments = padded_same term.arguments p.middle.arguments lengths (sym row_at ∙ rows ∙ p.row_is) in
        and_both (vertex p.ts p.ls p.reached v) (eqb term.symbol p.middle.symbol && same term.arguments p.middle.arguments)
        (passes (vertex p.ts p.ls p.reached v) (sym vertex_at ∙ is-vertex))
        (and_both (eqb term.symbol p.middle.symbol) (same term.arguments p.middle.arguments)
        ((eq_test term.symbol p.middle.symbol).1 (sym symbol_at ∙ symbol ∙ sym p.symbol_is))
        (subst (λ (l : List ℕ). T (same term.arguments l)) arguments (same_self term.arguments)))

    -- and the other way round
    equals_alike : T (equals v) → Alike st s row v
    equals_alike t =
        let w = vertex p.ts p.ls p.reached v in
        let e : term ≡ p.middle = equal_terms_is term p.middle (and_right w (equal_terms term p.middle) t) in (
          symbol_at ∙ ap (λ (x : Term). x.symbol) e ∙ p.symbol_is,
          arity_at ∙ ap (λ (x : Term). length x.arguments) e ∙ p.arity_is,
          vertex_at ∙ passed w (and_left w (equal_terms term p.middle) t),
          row_at ∙ ap (λ (x : Term). padded x.arguments) e ∙ sym p.row_is,
        )

  -- so the first that is alike is the vertex
  pub first_alike : (found : Option ℕ) → MatchOption found ((k : ℕ) → 0 ≤ k → k < st.terms → ¬ (Alike st s row k)) (λ v. (0 ≤ v) × (v < st.terms) × Alike st s row v × ((k : ℕ) → 0 ≤ k → k < v → ¬ (Alike st s row k))) → found ≡ vertex_equal p.ts p.ls p.reached p.middle
  unfolding vertex_equal
  first_alike (Some v) (_, l, here, before) =
      sym
      ((first_is equals (λ k. T (equals k)) (λ k. (λ h. h, λ h. h)) (length table) v).1
      (record { within = within v l; such = alike_equals v l here; none_before = λ k h t. before k (omega arith) h (equals_alike k (omega arith) t) }))
  first_alike None none =
      sym (none_first_of equals (below (length table)) (λ k m t. let l : k < st.terms = omega (arith, count_is, below_mem (length table) m) in none k (omega arith) l (equals_alike k l t)))

  -- ---- the middle term in its place

  -- where there is none, there is room for it
  pub room_left : None ≡ vertex_equal p.ts p.ls p.reached p.middle → st.terms < 511
  room_left e = omega (arith, count_is, p.room (sym e))

  -- the vertex stays in its place
  pub placed_there : (v : ℕ) → Some v ≡ vertex_equal p.ts p.ls p.reached p.middle → Shows p.ts p.ls (placed p.ts p.ls p.reached p.middle).state st × (v ≡ (placed p.ts p.ls p.reached p.middle).number)
  unfolding placed place_as
  placed_there v e =
      subst (λ (o : Option ℕ). Shows p.ts p.ls (place_as p.ts p.reached p.middle o).state st × (v ≡ (place_as p.ts p.reached p.middle o).number)) e (p.shows, refl)

  -- the new one comes behind all others
  pub placed_new : None ≡ vertex_equal p.ts p.ls p.reached p.middle → Shows p.ts p.ls (placed p.ts p.ls p.reached p.middle).state (enlarged st (get_or st.symbols s 0) (get_or st.arities s 0) row st.terms) × (st.terms ≡ (placed p.ts p.ls p.reached p.middle).number)
  unfolding placed place_as
  placed_new e =
      let new = enlarged st (get_or st.symbols s 0) (get_or st.arities s 0) row st.terms in
      subst (λ (o : Option ℕ). Shows p.ts p.ls (place_as p.ts p.reached p.middle o).state new × (st.terms ≡ (place_as p.ts p.reached p.middle o).number)) e
      (shows_term p.ts p.ls p.reached st p.middle _ _ row (room_left e) p.shows p.lower p.symbol_is p.arity_is p.row_is (p.new_shared (sym e)), count_is)

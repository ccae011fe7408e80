-- The derived step by its colours: an edge of colour B, else of colour A, else the middle step from the end that is A-colourable.
use Rattle.std.proofs.Common.{Option, Some, None, Result}
use mathlib.Core.Bool.{Bool, true, false, cond, not, ◌&&◌}
use mathlib.Core.List.{List}
use mathlib.Core.Logic.{◌⊎◌, inl, inr, ⊎_elim}
use mathlib.Core.Path.{◌≡◌, refl, sym, ap, ap₂, subst, ◌∙◌}
use Prim.Native.Nat.{ℕ, ◌%◌, ◌<◌}
use native.Mathlib.Omega.{arith}
use lib.Dec.{T, eqb, leb}
use lib.ListN.{get_or}
use Rattle.tables.specs.Words.{pair}
use Rattle.tables.specs.Terms.{Term}
use Rattle.tables.specs.declared.Literal.{Literal}
use Rattle.tables.specs.declared.Side.{Side}
use Rattle.tables.specs.declared.Side.TheVariants.{A, B}
use Rattle.tables.specs.Colours.{colourable, edge_colourable}
use Rattle.tables.proofs.Words.{passes, fails}
use Rattle.tables.proofs.Colours.{edge_colourable_ends, odd_test, two_test}
use Rattle.closure.specs.Graph.{joined}
use Rattle.closure.specs.declared.EdgeKind.TheVariants.{Derived as derived}
use Rattle.closure.specs.Steps.{State, table_of, vertex, congruent, with_edge, derived_step}
use Rattle.closure.specs.OwnRun.{derivable, middle_from, derived_on}
use Rattle.running.specs.Stepping.{OnRun, Apart, colouring, Outcome}
use Rattle.running.specs.declared.state.State.{State as Arrays}
use Rattle.running.specs.declared.state.Stuck.{Stuck}
use Rattle.closure.proofs.Running.Congruent.{congruent_sym}
use Rattle.closure.proofs.Running.Vertices.{vertex_within}
use Rattle.closure.proofs.Running.OwnSteps.{unjoined_sym, apart_from_left, apart_from_right}
use Rattle.closure.proofs.Running.OwnRun.{derivable_parts}
use Rattle.running.proofs.Showing.{shown_colour}
use Rattle.running.proofs.OnRuns.{on_run_sound, vertex_small, step_edges}

-- ---- what a colour says of the tests

-- an edge that has one
edge_tests : (m n : ℕ) (X : Side) → colouring m n ≡ Some X → ((leb 2 m && leb 2 n ≡ true) × (X ≡ B)) ⊎ ((leb 2 m && leb 2 n ≡ false) × (eqb (m % 2) 1 && eqb (n % 2) 1 ≡ true) × (X ≡ A))
unfolding colouring
edge_tests m n X e = go (leb 2 m && leb 2 n) (eqb (m % 2) 1 && eqb (n % 2) 1) e
  where
    go : (p q : Bool) → cond p (Some B) (cond q (Some A) None) ≡ Some X → ((p ≡ true) × (X ≡ B)) ⊎ ((p ≡ false) × (q ≡ true) × (X ≡ A))
    go true q h = inl (refl, (cc))
    go false true h = inr (refl, refl, (cc))
    go false false h = let z : ◌≡◌ {A = ℕ} 0 1 = cc in absurd (omega arith)

-- an edge that takes a middle term
middle_tests : (m n : ℕ) → colouring m n ≡ None → (leb 2 m && leb 2 n ≡ false) × (eqb (m % 2) 1 && eqb (n % 2) 1 ≡ false)
unfolding colouring
middle_tests m n e = go (leb 2 m && leb 2 n) (eqb (m % 2) 1 && eqb (n % 2) 1) e
  where
    go : (p q : Bool) → cond p (Some B) (cond q (Some A) None) ≡ None → (p ≡ false) × (q ≡ false)
    go true q h = let z : ◌≡◌ {A = ℕ} 0 1 = cc in absurd (omega arith)
    go false true h = let z : ◌≡◌ {A = ℕ} 0 1 = cc in absurd (omega arith)
    go false false h = (refl, refl)

module _ {a : Arrays} (run : OnRun a) (s t : ℕ) (d : T (derivable run.ts run.ls run.reached (pair s t))) where
  -- the given terms
  abbrev ts : List Term
  ts = run.ts

  -- the literals
  abbrev ls : List Literal
  ls = run.ls

  -- the state that is shown
  abbrev st : State
  st = run.reached

  -- the given and the added terms
  abbrev table : List Term
  table = table_of ts st

  -- ---- what a derivable pair is

  -- unjoined congruent vertices
  parts : T (vertex ts ls st s) × T (vertex ts ls st t) × T (not (joined st.graph s t)) × T (congruent table st.graph s t)
  parts = derivable_parts ts ls run.checked.lower run.checked.sides st (pair s t) d

  -- s is a vertex
  left_vertex : T (vertex ts ls st s)
  left_vertex = parts.0

  -- t is one
  right_vertex : T (vertex ts ls st t)
  right_vertex = parts.1

  -- they are not joined
  unjoined : T (not (joined st.graph s t))
  unjoined = parts.2

  -- they are congruent
  alike : T (congruent table st.graph s t)
  alike = parts.3

  -- s is a number of the arrays
  pub left_small : s < 511
  left_small = vertex_small run s left_vertex

  -- there is room for an edge between them
  edge_room : (X : Side) → T (edge_colourable ts ls X table s t) → a.graph.count < 510
  edge_room X e = omega (arith, run.shows.count, step_edges run (derived_step s t X left_vertex right_vertex unjoined alike e))

  -- ---- the tests of the colours

  -- the number of the colours of each end
  abbrev x : ℕ
  x = get_or a.colours s 0

  -- and of t
  abbrev y : ℕ
  y = get_or a.colours t 0

  -- the test for A
  odd_at : (v : ℕ) → T (vertex ts ls st v) → eqb (get_or a.colours v 0 % 2) 1 ≡ colourable ts ls A table v
  odd_at v h = ap (λ (n : ℕ). eqb (n % 2) 1) (shown_colour ts ls st a run.shows v (vertex_within ts ls st v h)) ∙ odd_test ts ls table v

  -- the test for B
  two_at : (v : ℕ) → T (vertex ts ls st v) → leb 2 (get_or a.colours v 0) ≡ colourable ts ls B table v
  two_at v h = ap (leb 2) (shown_colour ts ls st a run.shows v (vertex_within ts ls st v h)) ∙ two_test ts ls table v

  -- both ends are B-colourable
  both_b : leb 2 x && leb 2 y ≡ edge_colourable ts ls B table s t
  both_b = ap₂ (λ (p q : Bool). p && q) (two_at s left_vertex) (two_at t right_vertex) ∙ sym (edge_colourable_ends ts ls B table s t)

  -- both ends are A-colourable
  both_a : eqb (x % 2) 1 && eqb (y % 2) 1 ≡ edge_colourable ts ls A table s t
  both_a = ap₂ (λ (p q : Bool). p && q) (odd_at s left_vertex) (odd_at t right_vertex) ∙ sym (edge_colourable_ends ts ls A table s t)

  -- ---- what comes out

  -- the step by the three tests
  abbrev by_colours : Bool → Bool → Bool → Option State
  by_colours p q r =
      cond p (Some (with_edge st s t B derived))
      (cond q (Some (with_edge st s t A derived))
      (cond r (middle_from ts ls st s t) (middle_from ts ls st t s)))

  -- it is the step
  step_is : (p q r : Bool) → edge_colourable ts ls B table s t ≡ p → edge_colourable ts ls A table s t ≡ q → colourable ts ls A table s ≡ r → derived_on ts ls st (pair s t) ≡ by_colours p q r
  unfolding derived_on
  step_is p q r e f g = λ i. by_colours (e i) (f i) (g i)

  -- an edge of the colour that the numbers say: there is room for it, and it is the step
  pub plain_step : (X : Side) → colouring x y ≡ Some X → (a.graph.count < 510) × (derived_on ts ls st (pair s t) ≡ Some (with_edge st s t X derived))
  plain_step X e = ⊎_elim in_b in_a (edge_tests x y X e)
    where
      -- it has the colour X
      as_x : (Y : Side) → X ≡ Y → derived_on ts ls st (pair s t) ≡ Some (with_edge st s t Y derived) → derived_on ts ls st (pair s t) ≡ Some (with_edge st s t X derived)
      as_x Y q h = h ∙ ap (λ (Z : Side). Some (with_edge st s t Z derived)) (sym q)

      -- in B
      in_b : (leb 2 x && leb 2 y ≡ true) × (X ≡ B) → (a.graph.count < 510) × (derived_on ts ls st (pair s t) ≡ Some (with_edge st s t X derived))
      in_b w = (
        edge_room B (passes (edge_colourable ts ls B table s t) (sym both_b ∙ w.0)),
        as_x B w.1 (step_is true (edge_colourable ts ls A table s t) (colourable ts ls A table s) (sym both_b ∙ w.0) refl refl),
      )

      -- in A
      in_a : (leb 2 x && leb 2 y ≡ false) × (eqb (x % 2) 1 && eqb (y % 2) 1 ≡ true) × (X ≡ A) → (a.graph.count < 510) × (derived_on ts ls st (pair s t) ≡ Some (with_edge st s t X derived))
      in_a w = (
        edge_room A (passes (edge_colourable ts ls A table s t) (sym both_a ∙ w.1)),
        as_x A w.2 (step_is false true (colourable ts ls A table s) (sym both_b ∙ w.0) (sym both_a ∙ w.1) refl),
      )

  module _ (by-middle : colouring x y ≡ None) where
    -- no edge of colour B
    edge_not_b : edge_colourable ts ls B table s t ≡ false
    edge_not_b = sym both_b ∙ (middle_tests x y by-middle).0

    -- no edge of colour A
    edge_not_a : edge_colourable ts ls A table s t ≡ false
    edge_not_a = sym both_a ∙ (middle_tests x y by-middle).1

    -- the middle step from s
    pub apart_left : eqb (x % 2) 1 ≡ true → Apart ts ls st s t
    apart_left e =
        let sa = passes (colourable ts ls A table s) (sym (odd_at s left_vertex) ∙ e) in
        let w = apart_from_left ts ls st (on_run_sound run) s t right_vertex (fails (edge_colourable ts ls B table s t) edge_not_b) (fails (edge_colourable ts ls A table s t) edge_not_a) sa in
        record { left_vertex = left_vertex; right_vertex = right_vertex; unjoined = unjoined; alike = alike; left_a = sa; left_not_b = w.0; right_b = w.1; right_not_a = w.2 }

    -- it is the step then
    pub outcome_left : eqb (x % 2) 1 ≡ true → (r : Result Unit Stuck) (b : Arrays) → Outcome ts ls (middle_from ts ls st s t) r b → Outcome ts ls (derived_on ts ls st (pair s t)) r b
    outcome_left e r b h = subst (λ (o : Option State). Outcome ts ls o r b) (sym (step_is false false true edge_not_b edge_not_a (sym (odd_at s left_vertex) ∙ e))) h

    -- and from t
    pub apart_right : eqb (x % 2) 1 ≡ false → Apart ts ls st t s
    apart_right e =
        let sa = fails (colourable ts ls A table s) (sym (odd_at s left_vertex) ∙ e) in
        let w = apart_from_right ts ls st (on_run_sound run) s t left_vertex right_vertex (fails (edge_colourable ts ls B table s t) edge_not_b) sa in
        record { left_vertex = right_vertex; right_vertex = left_vertex; unjoined = unjoined_sym st.graph s t unjoined; alike = congruent_sym table st.graph s t alike; left_a = w.0; left_not_b = w.1; right_b = w.2; right_not_a = sa }

    -- it is the step then
    pub outcome_right : eqb (x % 2) 1 ≡ false → (r : Result Unit Stuck) (b : Arrays) → Outcome ts ls (middle_from ts ls st t s) r b → Outcome ts ls (derived_on ts ls st (pair s t)) r b
    outcome_right e r b h = subst (λ (o : Option State). Outcome ts ls o r b) (sym (step_is false false false edge_not_b edge_not_a (sym (odd_at s left_vertex) ∙ e))) h

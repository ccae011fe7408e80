-- The steps that the library's own run takes are steps, and a derived step is always there between unjoined congruent vertices.
use Rattle.std.proofs.Common.{Option, Some, option_map}
use mathlib.Core.Bool.{Bool, true, false, cond, not, ◌&&◌}
use mathlib.Core.List.{List, [], ◌∷◌, Memᴰ}
use mathlib.Core.Logic.{◌⊎◌, inl, inr}
use mathlib.Core.Path.{◌≡◌, refl, sym, ap, subst, ◌∙◌}
use Prim.Native.Nat.{ℕ, suc}
use lib.Dec.{T, T_not, not_T}
use Rattle.tables.specs.Words.{pair}
use Rattle.tables.specs.Terms.{Term}
use Rattle.tables.specs.LiteralTable.{is_equal}
use Rattle.tables.specs.declared.Literal.{Literal}
use Rattle.tables.specs.declared.Kind.{Kind}
use Rattle.tables.specs.declared.Kind.TheVariants.{Equal, Different}
use Rattle.tables.specs.declared.Side.{Side}
use Rattle.tables.specs.declared.Side.TheVariants.{A, B}
use Rattle.tables.specs.Colours.{colourable, edge_colourable}
use Rattle.tables.proofs.Words.{passes, fails, and_left, and_right, and_both}
use Rattle.closure.specs.Graph.{basic, derived, Graph, joined}
use Rattle.closure.specs.Steps.{State, table_of, vertex, congruent, with_edge, with_middle, colourable_only, Step, basic_step, derived_step, middle_step, Run, next, NoStepLeft}
use Rattle.closure.specs.OwnRun.{basic_steps, middle_from, derived_on}
use Rattle.closure.proofs.Walking.Joined.{joined_sym, joined_more, joined_ends}
use Rattle.closure.proofs.Running.Congruent.{congruent_sym}
use Rattle.closure.proofs.Running.Vertices.{vertex_within}
use Rattle.closure.proofs.Running.States.{SoundState}
use Rattle.closure.proofs.Running.SharedTerm.{middle_found}

-- ---- tests that fail

-- one of two tests fails where the other passes and both do not
pub not_and_left : (a b : Bool) → T (not (a && b)) → T b → T (not a)
not_and_left true b h k = absurd (T_not b h k)
not_and_left false b h k = tt

-- the other of the two
pub not_and_right : (a b : Bool) → T (not (a && b)) → T a → T (not b)
not_and_right true b h k = h
not_and_right false b h k = absurd k

-- a test that cannot fail passes
pub must_pass : (b : Bool) → (T (not b) → ⊥) → T b
must_pass true f = tt
must_pass false f = f tt

-- unjoined in either order
pub unjoined_sym : (G : Graph) (u v : ℕ) → T (not (joined G u v)) → T (not (joined G v u))
unjoined_sym G u v n = not_T (joined G v u) (λ k. T_not (joined G u v) n (joined_sym G v u k))

-- ---- basic steps

-- the test of a literal's kind
pub is_equal_equal : (k : Kind) → T (is_equal k) → k ≡ Equal
is_equal_equal Equal h = refl
is_equal_equal Different h = absurd h

-- what the run does for one literal: a basic step where it is an equality with unjoined sides
abbrev after_literal : Literal → State → State
after_literal l st = cond (is_equal l.kind && not (joined st.graph l.left l.right)) (with_edge st l.left l.right l.side basic) st

-- by whether it takes the step
literal_either : (P : State → Type 0) (l : Literal) (st : State) → (l.kind ≡ Equal → T (not (joined st.graph l.left l.right)) → P (with_edge st l.left l.right l.side basic)) → (T (not (is_equal l.kind && not (joined st.graph l.left l.right))) → P st) → P (after_literal l st)
literal_either P l st f g = go (is_equal l.kind && unjoined) refl
  where
    unjoined : Bool
    unjoined = not (joined st.graph l.left l.right)

    go : (b : Bool) → is_equal l.kind && unjoined ≡ b → P (cond b (with_edge st l.left l.right l.side basic) st)
    go true q = let h = passes (is_equal l.kind && unjoined) q in f (is_equal_equal l.kind (and_left (is_equal l.kind) unjoined h)) (and_right (is_equal l.kind) unjoined h)
    go false q = g (fails (is_equal l.kind && unjoined) q)

-- "all basic steps by record number, skipping joined sides" are basic steps
pub basic_steps_run : (ts : List Term) (ls more : List Literal) → ((l : Literal) → Memᴰ l more → Memᴰ l ls) → (k : ℕ) (st : State) → Run ts ls k st → (j : ℕ) × Run ts ls j (basic_steps more st)
unfolding basic_steps
basic_steps_run ts ls [] inside k st run = (k, run)
basic_steps_run ts ls (l ∷ more) inside k st run =
    let r = literal_either (λ z. (i : ℕ) × Run ts ls i z) l st (λ e n. (suc k, next run (basic_step l l.left l.right (inside l (Memᴰ.head refl)) e (inl (refl, refl)) n))) (λ n. (k, run)) in
    basic_steps_run ts ls more (λ x m. inside x (Memᴰ.tail m)) r.0 (after_literal l st) r.1

-- what is joined stays joined
pub basic_steps_stay : (more : List Literal) (st : State) (u v : ℕ) → T (joined st.graph u v) → T (joined (basic_steps more st).graph u v)
unfolding basic_steps
basic_steps_stay [] st u v j = j
basic_steps_stay (l ∷ more) st u v j = basic_steps_stay more (after_literal l st) u v (literal_either (λ z. T (joined z.graph u v)) l st (λ e n. joined_more (record { left = l.left; right = l.right; colour = l.side; kind = basic }) st.graph u v j) (λ n. j))

-- after one literal the sides of that literal are joined, if it is an equality
literal_joined : (l : Literal) (st : State) → l.kind ≡ Equal → T (joined (after_literal l st).graph l.left l.right)
literal_joined l st k =
    literal_either (λ z. T (joined z.graph l.left l.right)) l st
    (λ e n. joined_ends (record { left = l.left; right = l.right; colour = l.side; kind = basic }) st.graph)
    (λ n. must_pass (joined st.graph l.left l.right) (T_not (not (joined st.graph l.left l.right)) (not_and_right (is_equal l.kind) (not (joined st.graph l.left l.right)) n (subst (λ (c : Kind). T (is_equal c)) (sym k) tt))))

-- after all of them the sides of every equality are joined
pub basic_steps_join : (more : List Literal) (st : State) (l : Literal) → Memᴰ l more → l.kind ≡ Equal → T (joined (basic_steps more st).graph l.left l.right)
unfolding basic_steps
basic_steps_join [] st x absent k = elim absent [ ]
basic_steps_join (l ∷ more) st x (Memᴰ.head e) k =
    basic_steps_stay more (after_literal l st) x.left x.right
    (subst (λ (y : Literal). T (joined (after_literal l st).graph y.left y.right)) (sym e) (literal_joined l st (sym (ap (λ (y : Literal). y.kind) e) ∙ k)))
basic_steps_join (l ∷ more) st x (Memᴰ.tail m) k = basic_steps_join more (after_literal l st) x m k

-- ---- derived steps

-- a term colourable on a side and not on the other is colourable on it only
only_made : (ts : List Term) (ls : List Literal) (X Y : Side) (table : List Term) (v : ℕ) → T (colourable ts ls X table v) → T (not (colourable ts ls Y table v)) → T (colourable_only ts ls X Y table v)
unfolding colourable_only
only_made ts ls X Y table v h k = and_both (colourable ts ls X table v) (not (colourable ts ls Y table v)) h k

-- of an edge that is not colourable one end is not, where the other is
module _ (ts : List Term) (ls : List Literal) (X : Side) (table : List Term) (s t : ℕ) where
  -- the left end
  not_edge_left : T (not (edge_colourable ts ls X table s t)) → T (colourable ts ls X table t) → T (not (colourable ts ls X table s))
  unfolding edge_colourable
  not_edge_left n h = not_and_left (colourable ts ls X table s) (colourable ts ls X table t) n h

  -- the right end
  not_edge_right : T (not (edge_colourable ts ls X table s t)) → T (colourable ts ls X table s) → T (not (colourable ts ls X table t))
  unfolding edge_colourable
  not_edge_right n h = not_and_right (colourable ts ls X table s) (colourable ts ls X table t) n h

-- of two tests of which one passes, the first passes where the second fails
pub other_left : (a b : Bool) → T a ⊎ T b → T (not b) → T a
other_left a b (inl h) n = h
other_left a b (inr h) n = absurd (T_not b n h)

-- and the second where the first fails
pub other_right : (a b : Bool) → T a ⊎ T b → T (not a) → T b
other_right a b (inl h) n = absurd (T_not a n h)
other_right a b (inr h) n = h

module _ (ts : List Term) (ls : List Literal) (st : State) (r : SoundState ts ls st) where
  -- the colours of ends between which no edge is colourable, where s is A-colourable
  pub apart_from_left : (s t : ℕ) → T (vertex ts ls st t) → T (not (edge_colourable ts ls B (table_of ts st) s t)) → T (not (edge_colourable ts ls A (table_of ts st) s t)) → T (colourable ts ls A (table_of ts st) s) → T (not (colourable ts ls B (table_of ts st) s)) × T (colourable ts ls B (table_of ts st) t) × T (not (colourable ts ls A (table_of ts st) t))
  apart_from_left s t vt nb na sa =
      let ta = not_edge_right ts ls A (table_of ts st) s t na sa in
      let tb = other_right (colourable ts ls A (table_of ts st) t) (colourable ts ls B (table_of ts st) t) (r.coloured t vt) ta in
      (not_edge_left ts ls B (table_of ts st) s t nb tb, tb, ta)

  -- and where it is not
  pub apart_from_right : (s t : ℕ) → T (vertex ts ls st s) → T (vertex ts ls st t) → T (not (edge_colourable ts ls B (table_of ts st) s t)) → T (not (colourable ts ls A (table_of ts st) s)) → T (colourable ts ls A (table_of ts st) t) × T (not (colourable ts ls B (table_of ts st) t)) × T (colourable ts ls B (table_of ts st) s)
  apart_from_right s t vs vt nb sa =
      let sb = other_right (colourable ts ls A (table_of ts st) s) (colourable ts ls B (table_of ts st) s) (r.coloured s vs) sa in
      let tb = not_edge_right ts ls B (table_of ts st) s t nb sb in
      (other_left (colourable ts ls A (table_of ts st) t) (colourable ts ls B (table_of ts st) t) (r.coloured t vt) tb, tb, sb)

  -- the middle step that the library takes between an A-colourable and a B-colourable end is there, and is one
  own_middle : (s t : ℕ) → T (vertex ts ls st s) → T (vertex ts ls st t) → T (not (joined st.graph s t)) → T (congruent (table_of ts st) st.graph s t) → T (colourable ts ls A (table_of ts st) s) → T (not (colourable ts ls B (table_of ts st) s)) → T (colourable ts ls B (table_of ts st) t) → T (not (colourable ts ls A (table_of ts st) t)) → (after : State) × (middle_from ts ls st s t ≡ Some after) × Step ts ls st after
  unfolding middle_from
  own_middle s t vs vt n c sa sb tb ta =
      let m = middle_found ts ls (table_of ts st) r.lower st.graph r.edges s t (vertex_within ts ls st s vs) (vertex_within ts ls st t vt) c sa tb in
      (with_middle ts ls st s t m.0, ap (option_map (with_middle ts ls st s t)) m.1, middle_step s t m.0 vs vt n c (only_made ts ls A B (table_of ts st) s sa sb) (only_made ts ls B A (table_of ts st) t tb ta) m.2)

  -- the derived step that the library takes between unjoined congruent vertices is there, and is a step
  pub own_step : (s t : ℕ) → T (vertex ts ls st s) → T (vertex ts ls st t) → T (not (joined st.graph s t)) → T (congruent (table_of ts st) st.graph s t) → (after : State) × (derived_on ts ls st (pair s t) ≡ Some after) × Step ts ls st after
  unfolding derived_on
  own_step s t vs vt n c = as_b (edge_colourable ts ls B table s t) refl
    where
      table : List Term
      table = table_of ts st

      -- a derived edge of a colour
      edge : Side → Option State
      edge X = Some (with_edge st s t X derived)

      -- the middle step from the end that is A-colourable
      from : Bool → Option State
      from b = cond b (middle_from ts ls st s t) (middle_from ts ls st t s)

      -- an edge of colour A, or else that
      or_a : Bool → Option State
      or_a b = cond b (edge A) (from (colourable ts ls A table s))

      Taken : Option State → Type 0
      Taken o = (after : State) × (o ≡ Some after) × Step ts ls st after

      middle : (b : Bool) → colourable ts ls A table s ≡ b → T (not (edge_colourable ts ls B table s t)) → T (not (edge_colourable ts ls A table s t)) → Taken (from b)
      middle true q nb na =
          let sa = passes (colourable ts ls A table s) q in
          let w = apart_from_left s t vt nb na sa in
          own_middle s t vs vt n c sa w.0 w.1 w.2
      middle false q nb na =
          let sa = fails (colourable ts ls A table s) q in
          let w = apart_from_right s t vs vt nb sa in
          own_middle t s vt vs (unjoined_sym st.graph s t n) (congruent_sym table st.graph s t c) w.0 w.1 w.2 sa

      as_a : (b : Bool) → edge_colourable ts ls A table s t ≡ b → T (not (edge_colourable ts ls B table s t)) → Taken (or_a b)
      as_a true q nb = (with_edge st s t A derived, refl, derived_step s t A vs vt n c (passes (edge_colourable ts ls A table s t) q))
      as_a false q nb = middle (colourable ts ls A table s) refl nb (fails (edge_colourable ts ls A table s t) q)

      as_b : (b : Bool) → edge_colourable ts ls B table s t ≡ b → Taken (cond b (edge B) (or_a (edge_colourable ts ls A table s t)))
      as_b true q = (with_edge st s t B derived, refl, derived_step s t B vs vt n c (passes (edge_colourable ts ls B table s t) q))
      as_b false q = as_a (edge_colourable ts ls A table s t) refl (fails (edge_colourable ts ls B table s t) q)

  -- so where no step is left, congruent vertices are joined
  pub no_step_congruent : NoStepLeft ts ls st → (s t : ℕ) → T (vertex ts ls st s) → T (vertex ts ls st t) → T (congruent (table_of ts st) st.graph s t) → T (joined st.graph s t)
  no_step_congruent none_left s t vs vt c = must_pass (joined st.graph s t) (λ n. let w = own_step s t vs vt n c in none_left w.0 w.2)

-- and the sides of every equality are
pub no_step_equality : (ts : List Term) (ls : List Literal) (st : State) → NoStepLeft ts ls st → (l : Literal) → Memᴰ l ls → l.kind ≡ Equal → T (joined st.graph l.left l.right)
no_step_equality ts ls st none_left l m k = must_pass (joined st.graph l.left l.right) (λ n. none_left (with_edge st l.left l.right l.side basic) (basic_step l l.left l.right m k (inl (refl, refl)) n))

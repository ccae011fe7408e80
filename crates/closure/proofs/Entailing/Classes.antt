-- What the joined terms mean, where no step is left: terms in use are joined exactly when the equalities entail that they are equal, and no disequality
-- has its sides joined exactly when some interpretation satisfies all literals. Each is said of all interpretations and of the finite ones.
use mathlib.Core.Bool.{Bool, true, false, cond}
use mathlib.Core.List.{List, Memᴰ}
use mathlib.Core.Logic.{◌↔◌}
use mathlib.Core.Path.{◌≡◌, refl, sym, subst, ◌∙◌}
use Prim.Native.Nat.{ℕ, ◌<◌}
use native.Mathlib.Omega.{arith}
use lib.Dec.{T, ltb, ltb→lt, lt→ltb}
use lib.ListN.{length, length-append}
use Rattle.tables.specs.Terms.{Term, term_at}
use Rattle.tables.specs.Parts.{LowerArguments}
use Rattle.tables.specs.declared.Literal.{Literal}
use Rattle.tables.specs.declared.Kind.{Kind}
use Rattle.tables.specs.declared.Kind.TheVariants.{Equal, Different}
use Rattle.tables.specs.declared.Side.{Side}
use Rattle.tables.specs.declared.Side.TheVariants.{A, B}
use Rattle.tables.specs.Colours.{is_in_use}
use Rattle.tables.specs.Interpretations.{Interpretation, value, HoldsAs, Holds, Satisfies, SatisfiesEqualities, Satisfiable, FinitelySatisfiable, Entailed, FinitelyEntailed}
use Rattle.tables.proofs.Words.{passes, passed}
use Rattle.tables.proofs.Terms.{lower_append, value_append}
use Rattle.tables.proofs.Colours.{SidesWithin, left_in_use, right_in_use, in_use_within}
use Rattle.closure.specs.Graph.{Graph, joined}
use Rattle.closure.specs.Steps.{State, table_of, vertex, congruent}
use Rattle.closure.proofs.Entailing.Model.{model, model_finite, model_satisfies, entailed_joined}

-- ---- vertices

-- a given term in use is a vertex
pub in_use_vertex : (ts : List Term) (ls : List Literal) (st : State) → LowerArguments ts → SidesWithin ts ls → (v : ℕ) → T (is_in_use ts ls v) → T (vertex ts ls st v)
unfolding vertex
in_use_vertex ts ls st low sides v h = subst (λ (b : Bool). T (cond b (is_in_use ts ls v) (ltb v (length (table_of ts st))))) (sym (passed (ltb v (length ts)) (lt→ltb v (length ts) (in_use_within ts ls low sides v h)))) h

-- a vertex is a term of the table
pub vertex_within : (ts : List Term) (ls : List Literal) (st : State) (v : ℕ) → T (vertex ts ls st v) → v < length (table_of ts st)
unfolding vertex
vertex_within ts ls st v h = go (ltb v (length ts)) refl h
  where
    go : (b : Bool) → ltb v (length ts) ≡ b → T (cond b (is_in_use ts ls v) (ltb v (length (table_of ts st)))) → v < length (table_of ts st)
    go true e k = omega (arith, ltb→lt v (length ts) (passes (ltb v (length ts)) e), length-append ts st.added)
    go false e k = ltb→lt v (length (table_of ts st)) k

-- ---- literals

-- what satisfies A and B satisfies every literal
pub satisfies_all : (I : Interpretation) (ts : List Term) (ls : List Literal) → Satisfies I ts ls A → Satisfies I ts ls B → (l : Literal) → Memᴰ l ls → Holds I ts l
satisfies_all I ts ls a b l m = go l.side refl
  where
    go : (X : Side) → l.side ≡ X → Holds I ts l
    go A e = a l m e
    go B e = b l m e

-- a disequality that holds has sides of two values
pub holds_different : (I : Interpretation) (ts : List Term) (l : Literal) → l.kind ≡ Different → Holds I ts l → value I ts l.left ≡ value I ts l.right → ⊥
unfolding Holds HoldsAs
holds_different I ts l e h = subst (λ (k : Kind). HoldsAs I ts k l.left l.right) e h

-- no disequality has its sides joined
abbrev pub Apart : List Literal → Graph → Type 0
Apart ls G = (l : Literal) → Memᴰ l ls → l.kind ≡ Different → T (joined G l.left l.right) → ⊥

-- ---- what is joined is what is entailed

-- what a state at which no step is left has: arguments are lower and are vertices, and equal sides and congruent vertices are joined
pub record Ended (ts : List Term) (ls : List Literal) (st : State) : Type 0 where
  pub lower : LowerArguments (table_of ts st)
  pub closed : (v a : ℕ) → T (vertex ts ls st v) → Memᴰ a (term_at (table_of ts st) v).arguments → T (vertex ts ls st a)
  pub equals : (l : Literal) → Memᴰ l ls → l.kind ≡ Equal → T (joined st.graph l.left l.right)
  pub congruents : (u v : ℕ) → T (vertex ts ls st u) → T (vertex ts ls st v) → T (congruent (table_of ts st) st.graph u v) → T (joined st.graph u v)

module _ (ts : List Term) (ls : List Literal) (st : State) (sides : SidesWithin ts ls) (ended : Ended ts ls st) where
  -- a term in use is a vertex of the state
  used_vertex : (v : ℕ) → T (is_in_use ts ls v) → T (vertex ts ls st v)
  used_vertex = in_use_vertex ts ls st (lower_append ts st.added ended.lower) sides

  -- a term in use is a given term
  used_given : (v : ℕ) → T (is_in_use ts ls v) → v < length ts
  used_given = in_use_within ts ls (lower_append ts st.added ended.lower) sides

  -- both sides of a literal are vertices
  sides_vertex : (l : Literal) → Memᴰ l ls → T (vertex ts ls st l.left) × T (vertex ts ls st l.right)
  sides_vertex l m =
      let low = lower_append ts st.added ended.lower in
      (used_vertex l.left (left_in_use ts ls low sides l m), used_vertex l.right (right_in_use ts ls low sides l m))

  -- completeness: terms in use that every finite interpretation of the equalities makes equal are joined
  pub entailed_classes : (u v : ℕ) → T (is_in_use ts ls u) → T (is_in_use ts ls v) → FinitelyEntailed ts ls u v → T (joined st.graph u v)
  entailed_classes u v h k = entailed_joined ts st.added ls ended.lower st.graph (vertex ts ls st) (vertex_within ts ls st) ended.closed ended.congruents sides sides_vertex ended.equals u v (used_given u h) (used_given v k) (used_vertex u h) (used_vertex v k)

  -- and where no disequality has its sides joined, a finite interpretation satisfies all literals
  pub apart_consistent : Apart ls st.graph → FinitelySatisfiable ts ls
  apart_consistent apart =
      let satisfies = model_satisfies ts st.added ls ended.lower st.graph (vertex ts ls st) (vertex_within ts ls st) ended.closed ended.congruents sides sides_vertex ended.equals apart in
      (model (table_of ts st) st.graph (vertex ts ls st), model_finite (table_of ts st) st.graph (vertex ts ls st), satisfies A, satisfies B)

  -- soundness in the whole table gives soundness among the given terms, where terms in use have the same values
  pub given_sound : ((u v : ℕ) → T (joined st.graph u v) → (I : Interpretation) → SatisfiesEqualities I ts ls → value I (table_of ts st) u ≡ value I (table_of ts st) v) → (u v : ℕ) → T (is_in_use ts ls u) → T (is_in_use ts ls v) → T (joined st.graph u v) → Entailed ts ls u v
  given_sound f u v h k j I s =
      let low = lower_append ts st.added ended.lower in
      sym (value_append I ts st.added low u (used_given u h)) ∙ f u v j I s ∙ value_append I ts st.added low v (used_given v k)

  module _ (sound : (u v : ℕ) → T (is_in_use ts ls u) → T (is_in_use ts ls v) → T (joined st.graph u v) → Entailed ts ls u v) where
    -- terms in use are joined exactly when every interpretation that satisfies the equalities gives them one value
    pub joined_entailed : (u v : ℕ) → T (is_in_use ts ls u) → T (is_in_use ts ls v) → T (joined st.graph u v) ↔ Entailed ts ls u v
    joined_entailed u v h k = (sound u v h k, λ f. entailed_classes u v h k (λ I i. f I))

    -- and exactly when every finite one does
    pub joined_finitely : (u v : ℕ) → T (is_in_use ts ls u) → T (is_in_use ts ls v) → T (joined st.graph u v) ↔ FinitelyEntailed ts ls u v
    joined_finitely u v h k = (λ j I i. sound u v h k j I, entailed_classes u v h k)

    -- what satisfies all literals keeps the sides of each disequality apart
    pub consistent_apart : Satisfiable ts ls → Apart ls st.graph
    consistent_apart c l m e j =
        let low = lower_append ts st.added ended.lower in
        let holds = satisfies_all c.0 ts ls c.1 c.2 in
        holds_different c.0 ts l e (holds l m) (sound l.left l.right (left_in_use ts ls low sides l m) (right_in_use ts ls low sides l m) j c.0 (λ g n q. holds g n))

    -- no disequality has its sides joined exactly when some interpretation satisfies all literals
    pub apart_exact : Apart ls st.graph ↔ Satisfiable ts ls
    apart_exact = (λ a. let c = apart_consistent a in (c.0, c.2, c.3), consistent_apart)

    -- and exactly when some finite one does
    pub apart_finitely : Apart ls st.graph ↔ FinitelySatisfiable ts ls
    apart_finitely = (apart_consistent, λ c. consistent_apart (c.0, c.2, c.3))

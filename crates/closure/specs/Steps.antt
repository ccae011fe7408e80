-- 01, "Closure steps": what one step may be, as demand 3 allows it freely. ts are the given terms and ls the literals.
use Rattle.std.specs.Prelude.{Bool, cond, not, ◌&&◌, ◌⊎◌, ◌≡◌, ℕ, zero, suc, T, eqb, ltb, length, Option, Some, None}
use mathlib.Core.List.{List, [], ◌∷◌, ◌++◌, Memᴰ}
use Rattle.tables.specs.Words.{same, first_below}
use Rattle.tables.specs.Terms.{Term, term_at}
use Rattle.tables.specs.declared.Literal.{Literal}
use Rattle.tables.specs.declared.Kind.TheVariants.{Equal}
use Rattle.tables.specs.declared.Side.{Side}
use Rattle.tables.specs.declared.Side.TheVariants.{A, B}
use Rattle.tables.specs.Colours.{is_in_use, colourable, shared, edge_colourable}
use Rattle.closure.specs.Graph.{Edge, EdgeKind, basic, derived, Graph, joined, path, vertices, joined_pairwise}

-- What a run has made so far: the added terms in order of adding, and the graph's edges.
pub record State : Type 0 where
  pub added : List Term
  pub graph : Graph

-- "The graph starts with the terms in use and no edge."
abbrev pub begin : State
begin = record { added = []; graph = [] }

-- given terms, and the added ones "numbered on from n in order of adding"
abbrev pub table_of : List Term → State → List Term
table_of ts st = ts ++ st.added

-- the vertices: the given terms in use and the added terms ("a given term not in use is not a vertex")
unfoldable pub vertex : List Term → List Literal → State → ℕ → Bool
vertex ts ls st v = cond (ltb v (length ts)) (is_in_use ts ls v) (ltb v (length (table_of ts st)))

-- derived steps: "s and t have one symbol, and their arguments are joined pair by pair"
unfoldable pub congruent : List Term → Graph → ℕ → ℕ → Bool
congruent table G s t =
    eqb (term_at table s).symbol (term_at table t).symbol &&
    joined_pairwise G (term_at table s).arguments (term_at table t).arguments

-- one edge more
abbrev pub with_edge : State → ℕ → ℕ → Side → EdgeKind → State
with_edge st s t colour kind =
    let edge : Edge = record { left = s; right = t; colour = colour; kind = kind } in
    record { added = st.added; graph = edge ∷ st.graph }

-- "A shared term is chosen on each parent path, and the middle term has the same symbol over those."
abbrev pub middle_term : List Term → ℕ → List ℕ → Term
middle_term table s chosen = record { symbol = (term_at table s).symbol; arguments = chosen }

-- the vertex that equals a term, if there is one
unfoldable pub equal_terms : Term → Term → Bool
equal_terms x y = eqb x.symbol y.symbol && same x.arguments y.arguments

unfoldable pub vertex_equal : List Term → List Literal → State → Term → Option ℕ
vertex_equal ts ls st m =
    first_below (λ v. vertex ts ls st v && equal_terms (term_at (table_of ts st) v) m) (length (table_of ts st))

-- "If it is not a vertex it becomes one": the terms added then, and the middle term's number
pub record Placed : Type 0 where
  pub state : State
  pub number : ℕ

unfoldable pub place_as : List Term → State → Term → Option ℕ → Placed
place_as ts st m (Some v) = record { state = st; number = v }
place_as ts st m None =
    record { state = record { added = st.added ++ (m ∷ []); graph = st.graph }; number = length (table_of ts st) }

unfoldable pub placed : List Term → List Literal → State → Term → Placed
placed ts ls st m = place_as ts st m (vertex_equal ts ls st m)

-- "each of s and t not yet joined to it gets a derived edge to it": one end's part of that, in the end's colour
unfoldable pub tied : State → ℕ → ℕ → Side → State
tied st s m colour = cond (joined st.graph s m) st (with_edge st s m colour derived)

-- the whole of it, for an end s that is A-colourable only and an end t that is B-colourable only. Which edge is first shows nowhere.
unfoldable pub tied_both : Placed → ℕ → ℕ → State
tied_both p s t = tied (tied p.state s p.number A) t p.number B

unfoldable pub with_middle : List Term → List Literal → State → ℕ → ℕ → List ℕ → State
with_middle ts ls st s t chosen = tied_both (placed ts ls st (middle_term (table_of ts st) s chosen)) s t

-- "an equality record has the sides s and t"
abbrev pub HasSides : Literal → ℕ → ℕ → Type 0
HasSides l s t = ((l.left ≡ s) × (l.right ≡ t)) ⊎ ((l.left ≡ t) × (l.right ≡ s))

-- the end s "is A-colourable only" (or t B-colourable only)
unfoldable pub colourable_only : List Term → List Literal → Side → Side → List Term → ℕ → Bool
colourable_only ts ls X Y table v = colourable ts ls X table v && not (colourable ts ls Y table v)

-- the chosen terms: each is shared and stands on its parent path, in the order of the arguments
pub data Chosen (ts : List Term) (ls : List Literal) (table : List Term) (G : Graph) :
    List ℕ → List ℕ → List ℕ → Type 0 where
  chosen_none : Chosen ts ls table G [] [] []
  chosen_next : {a b m : ℕ} {as' bs ms : List ℕ} → T (shared ts ls table m) → Memᴰ m (vertices a (path G a b)) →
      Chosen ts ls table G as' bs ms → Chosen ts ls table G (a ∷ as') (b ∷ bs) (m ∷ ms)

-- "A step is taken only between unjoined terms s and t"
pub data Step (ts : List Term) (ls : List Literal) (st : State) : State → Type 0 where
  -- "basic: an equality record has the sides s and t. The edge's colour is that record's side."
  basic_step : (l : Literal) (s t : ℕ) → Memᴰ l ls → l.kind ≡ Equal → HasSides l s t →
      T (not (joined st.graph s t)) → Step ts ls st (with_edge st s t l.side basic)
  -- "derived": between any vertices; the colour is one that both ends have, so a free choice where both are shared
  derived_step : (s t : ℕ) (colour : Side) → T (vertex ts ls st s) → T (vertex ts ls st t) →
      T (not (joined st.graph s t)) → T (congruent (table_of ts st) st.graph s t) →
      T (edge_colourable ts ls colour (table_of ts st) s t) → Step ts ls st (with_edge st s t colour derived)
  -- "If a derived edge is not colourable, one end, s, is A-colourable only and t is B-colourable only."
  middle_step : (s t : ℕ) (chosen : List ℕ) → T (vertex ts ls st s) → T (vertex ts ls st t) →
      T (not (joined st.graph s t)) → T (congruent (table_of ts st) st.graph s t) →
      T (colourable_only ts ls A B (table_of ts st) s) → T (colourable_only ts ls B A (table_of ts st) t) →
      Chosen ts ls (table_of ts st) st.graph
      (term_at (table_of ts st) s).arguments (term_at (table_of ts st) t).arguments chosen →
      Step ts ls st (with_middle ts ls st s t chosen)

-- a run: any steps, one after the other, from the beginning; k counts them
pub data Run (ts : List Term) (ls : List Literal) : ℕ → State → Type 0 where
  start : Run ts ls zero begin
  next : {k : ℕ} {st after : State} → Run ts ls k st → Step ts ls st after → Run ts ls (suc k) after

-- a run that is carried to its end: no step is left
abbrev pub NoStepLeft : List Term → List Literal → State → Type 0
NoStepLeft ts ls st = (after : State) → Step ts ls st after → ⊥

-- What holds of every state of every run, and that one edge more keeps it.
use mathlib.Core.Bool.{Bool, true, false, cond, not}
use mathlib.Core.List.{List, [], append-nil, Memᴰ}
use mathlib.Core.Logic.{◌⊎◌, inl, inr, ⊎_elim}
use mathlib.Core.Path.{◌≡◌, refl, sym, subst}
use Prim.Native.Nat.{ℕ, ◌≤◌, ◌<◌}
use native.Mathlib.Omega.{arith}
use lib.Dec.{T}
use lib.ListN.{length, length-append}
use Rattle.tables.specs.Terms.{Term, term_at}
use Rattle.tables.specs.Parts.{itself, LowerArguments}
use Rattle.tables.specs.declared.Literal.{Literal}
use Rattle.tables.specs.declared.Kind.TheVariants.{Equal}
use Rattle.tables.specs.declared.Side.{Side}
use Rattle.tables.specs.declared.Side.TheVariants.{A, B}
use Rattle.tables.specs.Colours.{is_in_use, colourable, shared, edge_colourable}
use Rattle.tables.proofs.Words.{passes, fails}
use Rattle.tables.proofs.Colours.{SidesWithin, left_in_use, right_in_use, in_use_argument, in_use_within, in_use_colourable, part_colourable}
use Rattle.closure.specs.Graph.{Edge, EdgeKind, basic, derived, joined}
use Rattle.closure.specs.Steps.{State, begin, table_of, vertex, congruent, with_edge, tied, HasSides}
use Rattle.closure.proofs.Walking.Joined.{joined_self, joined_trans, joined_more, joined_ends}
use Rattle.closure.proofs.Walking.Invariant.{Each, SoundEdge, SoundGraph}
use Rattle.closure.proofs.Running.Congruent.{congruent_self, congruent_trans, congruent_more}
use Rattle.closure.proofs.Running.Larger.{ends_edge, Extends, extends_term, extends_colourable}
use Rattle.closure.proofs.Running.Vertices.{vertex_cases, used_vertex, vertex_within, EndsAmong}

-- ---- the invariants

-- what holds of every state of a run, but for what `Known` says below
pub record SoundState (ts : List Term) (ls : List Literal) (st : State) : Type 0 where
  -- arguments are lower, those of added terms too
  pub lower : LowerArguments (table_of ts st)
  -- each edge is one that a step makes
  pub edges : SoundGraph ts ls (table_of ts st) st.graph
  -- the ends of each edge are vertices
  pub ends : Each (EndsAmong (vertex ts ls st)) st.graph
  -- the arguments of a vertex are vertices
  pub arguments : (v a : ℕ) → T (vertex ts ls st v) → Memᴰ a (term_at (table_of ts st) v).arguments → T (vertex ts ls st a)
  -- every vertex is A-colourable or B-colourable
  pub coloured : (v : ℕ) → T (vertex ts ls st v) → T (colourable ts ls A (table_of ts st) v) ⊎ T (colourable ts ls B (table_of ts st) v)
  -- every added term is shared
  pub added_shared : (v : ℕ) → length ts ≤ v → v < length (table_of ts st) → T (shared ts ls (table_of ts st) v)

-- a given term in use stands for the vertex: it is joined and congruent to it
abbrev pub Known : List Term → List Literal → State → ℕ → Type 0
Known ts ls st v = (s : ℕ) × T (is_in_use ts ls s) × T (joined st.graph s v) × T (congruent (table_of ts st) st.graph s v)

-- what a derived edge between s and t needs, but that they are unjoined
pub record Ties (ts : List Term) (ls : List Literal) (st : State) (X : Side) (s t : ℕ) : Type 0 where
  pub left_vertex : T (vertex ts ls st s)
  pub right_vertex : T (vertex ts ls st t)
  pub alike : T (congruent (table_of ts st) st.graph s t)
  pub colours : T (edge_colourable ts ls X (table_of ts st) s t)

-- the given terms stand first in every table of a run
abbrev pub given_first : (ts : List Term) (st : State) → Extends ts (table_of ts st)
given_first ts st = (st.added, refl)

-- ---- one edge more

module _ (ts : List Term) (ls : List Literal) where
  -- a state stays sound under a sound edge between vertices
  pub edge_sound : (st : State) → SoundState ts ls st → (s t : ℕ) (X : Side) (k : EdgeKind) → T (vertex ts ls st s) → T (vertex ts ls st t) → SoundEdge ts ls (table_of ts st) st.graph (record { left = s; right = t; colour = X; kind = k }) → SoundState ts ls (with_edge st s t X k)
  unfolding vertex
  edge_sound st r s t X k hs ht e =
      record {
        lower = r.lower;
        edges = (e, r.edges);
        ends = ((hs, ht), r.ends);
        arguments = r.arguments;
        coloured = r.coloured;
        added_shared = r.added_shared;
      }

  -- so does it under a derived edge
  pub ties_sound : (st : State) → SoundState ts ls st → (X : Side) (s t : ℕ) → Ties ts ls st X s t → T (not (joined st.graph s t)) → SoundState ts ls (with_edge st s t X derived)
  ties_sound st r X s t q n =
      edge_sound st r s t X derived q.left_vertex q.right_vertex
      (record { unjoined = n; behind = q.alike; coloured = q.colours; left_within = vertex_within ts ls st s q.left_vertex; right_within = vertex_within ts ls st t q.right_vertex })

  -- a pair that an edge may tie stays one under one edge more
  pub ties_edge : (st : State) (X : Side) (s t : ℕ) → Ties ts ls st X s t → (u v : ℕ) (Y : Side) (k : EdgeKind) → Ties ts ls (with_edge st u v Y k) X s t
  unfolding vertex
  ties_edge st X s t q u v Y k = record { left_vertex = q.left_vertex; right_vertex = q.right_vertex; alike = congruent_more (table_of ts st) st.graph (record { left = u; right = v; colour = Y; kind = k }) s t q.alike; colours = q.colours }

  -- a known vertex stays known under one edge more
  pub known_edge : (st : State) (v : ℕ) → Known ts ls st v → (s t : ℕ) (X : Side) (k : EdgeKind) → Known ts ls (with_edge st s t X k) v
  known_edge st v q s t X k =
      let e : Edge = record { left = s; right = t; colour = X; kind = k } in
      (q.0, q.1, joined_more e st.graph q.0 v q.2, congruent_more (table_of ts st) st.graph e q.0 v q.3)

  -- what is joined and congruent to a known vertex is known
  pub known_through : (st : State) (u v : ℕ) → Known ts ls st u → T (joined st.graph u v) → T (congruent (table_of ts st) st.graph u v) → Known ts ls st v
  known_through st u v q j c = (q.0, q.1, joined_trans st.graph q.0 u v q.2 j, congruent_trans (table_of ts st) st.graph q.0 u v q.3 c)

-- what holds of a state, and of it with the edge where the two are unjoined, holds when s is tied to m
pub tied_either : (P : State → Type 0) (st : State) (s m : ℕ) (X : Side) → (T (joined st.graph s m) → P st) → (T (not (joined st.graph s m)) → P (with_edge st s m X derived)) → P (tied st s m X)
unfolding tied
tied_either P st s m X f g = go (joined st.graph s m) refl
  where
    go : (b : Bool) → joined st.graph s m ≡ b → P (cond b st (with_edge st s m X derived))
    go true q = f (passes (joined st.graph s m) q)
    go false q = g (fails (joined st.graph s m) q)

-- s and m are joined then
pub tied_joined : (st : State) (s m : ℕ) (X : Side) → T (joined (tied st s m X).graph s m)
tied_joined st s m X = tied_either (λ z. T (joined z.graph s m)) st s m X (λ j. j) (λ n. joined_ends (record { left = s; right = m; colour = X; kind = derived }) st.graph)

-- ---- the beginning, and basic steps

module _ (ts : List Term) (ls : List Literal) (low : LowerArguments ts) (within : SidesWithin ts ls) where
  -- a given term in use is a vertex of every state
  pub in_use_vertex : (st : State) (v : ℕ) → T (is_in_use ts ls v) → T (vertex ts ls st v)
  in_use_vertex st v h = used_vertex ts ls st v (in_use_within ts ls low within v h) h

  -- what every state has at the given terms in use: their arguments are in use
  pub given_argument : (st : State) (v a : ℕ) → T (is_in_use ts ls v) → Memᴰ a (term_at (table_of ts st) v).arguments → T (vertex ts ls st a)
  given_argument st v a h m =
      in_use_vertex st a (in_use_argument ts ls low within v a h (subst (λ (x : Term). Memᴰ a x.arguments) (extends_term ts (table_of ts st) (given_first ts st) v (in_use_within ts ls low within v h)) m))

  -- and each is A-colourable or B-colourable
  pub given_coloured : (st : State) (v : ℕ) → T (is_in_use ts ls v) → T (colourable ts ls A (table_of ts st) v) ⊎ T (colourable ts ls B (table_of ts st) v)
  given_coloured st v h =
      let w = in_use_within ts ls low within v h in
      ⊎_elim (λ c. inl (extends_colourable ts (table_of ts st) (given_first ts st) ts ls A low v w c)) (λ c. inr (extends_colourable ts (table_of ts st) (given_first ts st) ts ls B low v w c)) (in_use_colourable ts ls low within v h)

  -- nothing is added at the beginning
  nothing_added : (v : ℕ) → length ts ≤ v → v < length (table_of ts begin) → ⊥
  nothing_added v h k = omega (arith, length-append ts [])

  -- a vertex at the beginning is a given term in use
  pub begin_vertex : (v : ℕ) → T (vertex ts ls begin v) → T (is_in_use ts ls v)
  begin_vertex v h = ⊎_elim (λ c. c.1) (λ c. absurd (nothing_added v c.0 c.1)) (vertex_cases ts ls begin v h)

  -- the beginning is sound
  pub begin_sound : SoundState ts ls begin
  begin_sound =
      record {
        lower = subst LowerArguments (sym (append-nil ts)) low;
        edges = tt;
        ends = tt;
        arguments = λ v a h m. given_argument begin v a (begin_vertex v h) m;
        coloured = λ v h. given_coloured begin v (begin_vertex v h);
        added_shared = λ v h k. absurd (nothing_added v h k);
      }

  -- a given term in use is known
  pub given_known : (st : State) (v : ℕ) → T (is_in_use ts ls v) → Known ts ls st v
  given_known st v h = (v, h, joined_self st.graph v, congruent_self (table_of ts st) st.graph v)

  -- a side of a literal is in use
  side_in_use : (l : Literal) → Memᴰ l ls → (u : ℕ) → (l.left ≡ u) ⊎ (l.right ≡ u) → T (is_in_use ts ls u)
  side_in_use l m u = ⊎_elim (λ q. subst (λ (x : ℕ). T (is_in_use ts ls x)) q (left_in_use ts ls low within l m)) (λ q. subst (λ (x : ℕ). T (is_in_use ts ls x)) q (right_in_use ts ls low within l m))

  -- and colourable on its side, in every state
  side_colourable : (st : State) (l : Literal) → Memᴰ l ls → (u : ℕ) → (l.left ≡ u) ⊎ (l.right ≡ u) → T (colourable ts ls l.side (table_of ts st) u)
  side_colourable st l m u h = extends_colourable ts (table_of ts st) (given_first ts st) ts ls l.side low u (in_use_within ts ls low within u (side_in_use l m u h)) (⊎_elim (λ q. subst (λ (x : ℕ). T (colourable ts ls l.side ts x)) q (part_colourable ts ls low within l.side l m refl l.left (inl itself))) (λ q. subst (λ (x : ℕ). T (colourable ts ls l.side ts x)) q (part_colourable ts ls low within l.side l m refl l.right (inr itself))) h)

  -- a state stays sound under a basic step
  pub basic_sound : (st : State) → SoundState ts ls st → (l : Literal) (s t : ℕ) → Memᴰ l ls → l.kind ≡ Equal → HasSides l s t → T (not (joined st.graph s t)) → SoundState ts ls (with_edge st s t l.side basic)
  basic_sound st r l s t m k h n =
      let left : (l.left ≡ s) ⊎ (l.right ≡ s) = ⊎_elim (λ q. inl q.0) (λ q. inr q.1) h in
      let right : (l.left ≡ t) ⊎ (l.right ≡ t) = ⊎_elim (λ q. inr q.1) (λ q. inl q.0) h in
      let vs = in_use_vertex st s (side_in_use l m s left) in
      let vt = in_use_vertex st t (side_in_use l m t right) in
      edge_sound ts ls st r s t l.side basic vs vt
      (record { unjoined = n; behind = (l, m, k, refl, h); coloured = ends_edge ts ls (table_of ts st) l.side s t (side_colourable st l m s left) (side_colourable st l m t right); left_within = vertex_within ts ls st s vs; right_within = vertex_within ts ls st t vt })

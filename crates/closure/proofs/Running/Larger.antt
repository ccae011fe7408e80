-- What is known of terms, colours and edges stays where more terms stand behind those of the table.
use mathlib.Core.List.{List, ◌++◌}
use mathlib.Core.Path.{◌≡◌, sym, ap, subst, ◌∙◌}
use Prim.Native.Nat.{ℕ, ◌≤◌, ◌<◌}
use native.Mathlib.Omega.{arith}
use lib.Dec.{T}
use lib.ListN.{length, length-append}
use Rattle.tables.specs.Terms.{Term, term_at}
use Rattle.tables.specs.Parts.{LowerArguments}
use Rattle.tables.specs.declared.Literal.{Literal}
use Rattle.tables.specs.declared.Side.{Side}
use Rattle.tables.specs.declared.Side.TheVariants.{A, B}
use Rattle.tables.specs.Colours.{colourable, shared, edge_colourable}
use Rattle.tables.proofs.Words.{and_left, and_right, and_both}
use Rattle.tables.proofs.Terms.{term_at_append}
use Rattle.tables.proofs.Colours.{colourable_append}
use Rattle.closure.specs.Graph.{Edge, EdgeKind, basic, derived, Graph, joined_pairwise}
use Rattle.closure.specs.Steps.{congruent}
use Rattle.closure.proofs.Running.Congruent.{congruent_symbol, congruent_arguments, congruent_made}
use Rattle.closure.proofs.Walking.Invariant.{Behind, SoundEdge, SoundGraph}
use Rattle.closure.proofs.Walking.ParentPaths.{each_map}

-- ---- colours

module _ (ts : List Term) (ls : List Literal) (table : List Term) where
  -- a shared term is colourable on both sides
  pub shared_side : (X : Side) (v : ℕ) → T (shared ts ls table v) → T (colourable ts ls X table v)
  unfolding shared
  shared_side A v h = and_left (colourable ts ls A table v) (colourable ts ls B table v) h
  shared_side B v h = and_right (colourable ts ls A table v) (colourable ts ls B table v) h

  -- and what is colourable on both sides is shared
  pub sides_shared : (v : ℕ) → ((X : Side) → T (colourable ts ls X table v)) → T (shared ts ls table v)
  unfolding shared
  sides_shared v h = and_both (colourable ts ls A table v) (colourable ts ls B table v) (h A) (h B)

  -- the ends of a colourable edge are colourable
  pub edge_left : (X : Side) (s t : ℕ) → T (edge_colourable ts ls X table s t) → T (colourable ts ls X table s)
  unfolding edge_colourable
  edge_left X s t h = and_left (colourable ts ls X table s) (colourable ts ls X table t) h

  -- the right one too
  pub edge_right : (X : Side) (s t : ℕ) → T (edge_colourable ts ls X table s t) → T (colourable ts ls X table t)
  unfolding edge_colourable
  edge_right X s t h = and_right (colourable ts ls X table s) (colourable ts ls X table t) h

  -- and that is all
  pub ends_edge : (X : Side) (s t : ℕ) → T (colourable ts ls X table s) → T (colourable ts ls X table t) → T (edge_colourable ts ls X table s t)
  unfolding edge_colourable
  ends_edge X s t h k = and_both (colourable ts ls X table s) (colourable ts ls X table t) h k

-- ---- a larger table

-- the larger table has more terms behind
abbrev pub Extends : List Term → List Term → Type 0
Extends table larger = (more : List Term) × (larger ≡ table ++ more)

module _ (table larger : List Term) (ext : Extends table larger) where
  -- it is no shorter
  pub extends_length : length table ≤ length larger
  extends_length = omega (arith, ap length ext.1, length-append table ext.0)

  -- it has the same terms at the same numbers
  pub extends_term : (t : ℕ) → t < length table → term_at larger t ≡ term_at table t
  extends_term t h = ap (λ (tb : List Term). term_at tb t) ext.1 ∙ term_at_append table ext.0 t h

  -- the same are colourable
  pub extends_colourable : (ts : List Term) (ls : List Literal) (X : Side) → LowerArguments table → (t : ℕ) → t < length table → T (colourable ts ls X table t) → T (colourable ts ls X larger t)
  extends_colourable ts ls X low t h k = subst T (sym (ap (λ (tb : List Term). colourable ts ls X tb t) ext.1 ∙ colourable_append ts ls X table ext.0 low t h)) k

  -- the same are shared
  pub extends_shared : (ts : List Term) (ls : List Literal) → LowerArguments table → (t : ℕ) → t < length table → T (shared ts ls table t) → T (shared ts ls larger t)
  extends_shared ts ls low t h k = sides_shared ts ls larger t (λ X. extends_colourable ts ls X low t h (shared_side ts ls table X t k))

  -- the same edges are colourable
  pub extends_edge : (ts : List Term) (ls : List Literal) (X : Side) → LowerArguments table → (s t : ℕ) → s < length table → t < length table → T (edge_colourable ts ls X table s t) → T (edge_colourable ts ls X larger s t)
  extends_edge ts ls X low s t hs ht k = ends_edge ts ls larger X s t (extends_colourable ts ls X low s hs (edge_left ts ls table X s t k)) (extends_colourable ts ls X low t ht (edge_right ts ls table X s t k))

  -- the same are congruent
  pub extends_congruent : (G : Graph) (s t : ℕ) → s < length table → t < length table → T (congruent table G s t) → T (congruent larger G s t)
  extends_congruent G s t hs ht k =
      let es = extends_term s hs in
      let et = extends_term t ht in
      congruent_made larger G s t
      (ap (λ (x : Term). x.symbol) es ∙ congruent_symbol table G s t k ∙ sym (ap (λ (x : Term). x.symbol) et))
      (subst (λ (x : Term). T (joined_pairwise G x.arguments (term_at larger t).arguments)) (sym es) (subst (λ (x : Term). T (joined_pairwise G (term_at table s).arguments x.arguments)) (sym et) (congruent_arguments table G s t k)))

  -- an edge is as sound as it was
  pub extends_sound_edge : (ts : List Term) (ls : List Literal) → LowerArguments table → (G : Graph) (e : Edge) → SoundEdge ts ls table G e → SoundEdge ts ls larger G e
  extends_sound_edge ts ls low G e r =
      record {
        unjoined = r.unjoined;
        behind = go e.kind r.behind;
        coloured = extends_edge ts ls e.colour low e.left e.right r.left_within r.right_within r.coloured;
        left_within = omega (arith, extends_length, r.left_within);
        right_within = omega (arith, extends_length, r.right_within);
      }
    where
      go : (k : EdgeKind) → Behind ls table G e k → Behind ls larger G e k
      go basic b = b
      go derived b = extends_congruent G e.left e.right r.left_within r.right_within b

  -- and so is a graph
  pub extends_sound : (ts : List Term) (ls : List Literal) → LowerArguments table → (G : Graph) → SoundGraph ts ls table G → SoundGraph ts ls larger G
  extends_sound ts ls low G p = each_map (SoundEdge ts ls table) (SoundEdge ts ls larger) (extends_sound_edge ts ls low) G p

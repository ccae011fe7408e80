-- Edge number i of an array, as the code counts, is the edge that stands over the first i: the hop that walks it has i older edges.
use mathlib.Core.List.{List, ◌∷◌, map}
use mathlib.Core.Logic.{◌⊎◌, inl, inr}
use mathlib.Core.Path.{◌≡◌, refl, sym, ap, ap₂, subst, ◌∙◌}
use Prim.Native.Nat.{ℕ, zero, suc, ◌+◌, ◌≤◌, ◌<◌}
use native.Mathlib.Nat.{lt_irrefl, not-suc-le-zero, eq-or-lt_of_le}
use native.Mathlib.Numerals.{add-one}
use native.Mathlib.Omega.{arith}
use lib.ListN.{length, get_or, set, length-map}
use lib.Seq.{get_or-set_same, get_or-set_other}
use Rattle.closure.specs.Graph.{Graph, Hop, forth, back}
use Rattle.closure.specs.declared.Edge.{Edge}
use Rattle.closure.specs.Walks.{HopOf, onward, backward, earlier}
use Rattle.closure.specs.Forests.{Each}
use Rattle.graphs.specs.Layout.{no_edge, last_first, newest_first, edges_of}
use Rattle.graphs.specs.declared.graph.Graph.{Graph as Kept}

-- an array of structs has the length that its fields' array has: what owning it tells is said of those
pub struct_length : (A B : Type 0) (f : A → B) (l : List A) (n : ℕ) → length (map f l) ≡ n → length l ≡ n
struct_length A B f l n p = sym (length-map l f) ∙ p

-- ---- lists from their last number on

module _ {A : Type 0} (d : A) where
  -- there are as many as are asked for
  pub last_first_length : (n : ℕ) (l : List A) → length (last_first n l d) ≡ n
  unfolding last_first
  last_first_length zero l = refl
  last_first_length (suc n) l = ap suc (last_first_length n l)

  -- a store past them changes none
  last_first_kept : (n : ℕ) (l : List A) (i : ℕ) (x : A) → n ≤ i → last_first n (set l i x) d ≡ last_first n l d
  unfolding last_first
  last_first_kept zero l i x h = refl
  last_first_kept (suc n) l i x h = ap₂ ◌∷◌ (get_or-set_other l i n x d (λ q. lt_irrefl n (subst (λ (y : ℕ). n < y) (sym q) h))) (last_first_kept n l i x (omega arith))

  -- a store in the first free place comes first
  pub last_first_more : (n : ℕ) (l : List A) (x : A) → n < length l → last_first (n + 1) (set l n x) d ≡ x ∷ last_first n l d
  unfolding last_first
  last_first_more n l x h = rw (add-one, get_or-set_same l n x d h, last_first_kept n l n x (omega arith))

-- ---- edges by number

-- edge number i, walked from its left end: the edges older than it are the first i
abbrev pub forth_by : List Edge → ℕ → Hop
forth_by es i = forth (get_or es i no_edge) (newest_first i es)

-- the same from its right end
abbrev pub back_by : List Edge → ℕ → Hop
back_by es i = back (get_or es i no_edge) (newest_first i es)

-- each of the first n edges is walked by hops of theirs, both ways
pub hops_by : (es : List Edge) (i n : ℕ) → i < n → HopOf (forth_by es i) (newest_first n es) × HopOf (back_by es i) (newest_first n es)
unfolding last_first
hops_by es i zero h = absurd (not-suc-le-zero h)
hops_by es i (suc n) h = go (eq-or-lt_of_le h) (λ k. hops_by es i n k)
  where
    go : (suc i ≡ suc n) ⊎ (suc i < suc n) → (i < n → HopOf (forth_by es i) (newest_first n es) × HopOf (back_by es i) (newest_first n es)) → HopOf (forth_by es i) (newest_first (suc n) es) × HopOf (back_by es i) (newest_first (suc n) es)
    go (inr k) f = let r = f (omega arith) in (earlier r.0, earlier r.1)
    go (inl q) f = let q' : i ≡ n = omega arith in (onward (ap (forth_by es) q'), backward (ap (back_by es) q'))

-- what holds of each of the first n edges holds of edge number i
pub each_by : (P : Graph → Edge → Type 0) (es : List Edge) (i n : ℕ) → i < n → Each P (newest_first n es) → P (newest_first i es) (get_or es i no_edge)
unfolding last_first
each_by P es i zero h p = absurd (not-suc-le-zero h)
each_by P es i (suc n) h p = go (eq-or-lt_of_le h) (λ k. each_by P es i n k p.1)
  where
    go : (suc i ≡ suc n) ⊎ (suc i < suc n) → (i < n → P (newest_first i es) (get_or es i no_edge)) → P (newest_first i es) (get_or es i no_edge)
    go (inl q) f = let q' : n ≡ i = omega arith in subst (λ (k : ℕ). P (newest_first k es) (get_or es k no_edge)) q' p.0
    go (inr k) f = f (omega arith)

-- and what holds of each edge by its number holds of each of the first n edges
pub by_each : (P : Graph → Edge → Type 0) (es : List Edge) (n : ℕ) → ((i : ℕ) → i < n → P (newest_first i es) (get_or es i no_edge)) → Each P (newest_first n es)
unfolding last_first
by_each P es zero f = tt
by_each P es (suc n) f = (f n (omega arith), by_each P es n (λ i h. f i (omega arith)))

-- the edges of a graph are the first of its array
pub edges_are : (g : Kept) → edges_of g ≡ newest_first g.count g.edges
unfolding edges_of
edges_are g = refl

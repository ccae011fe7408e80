-- What the turns along a stretch keep: what was marked and what the stretch asks for is what is marked and what the rest of it asks for.
use mathlib.Core.Bool.{Bool, true, false, true≢false}
use mathlib.Core.List.Memᴰ
use mathlib.Core.List.{List, ◌∷◌, Memᴰ}
use mathlib.Core.Logic.{◌⊎◌, inl, inr, ⊎_elim, ◌↔◌}
use mathlib.Core.Path.{◌≡◌, refl, sym, ap, subst, ◌∙◌}
use Prim.Native.Nat.{ℕ, suc, ◌+◌, ◌≤◌, ◌<◌}
use native.Mathlib.Numerals.{add-one}
use native.Mathlib.Omega.{arith}
use lib.ListN.{length, get_or, set}
use Rattle.tables.specs.Words.{Pair}
use Rattle.closure.specs.Graph.{Hop, Path}
use Rattle.clauses.specs.Clauses.{between}
use Rattle.graphs.specs.declared.paths.Trail.{Trail}
use Rattle.marking.specs.Marks.{is_b, EndOf, EdgeOf, PairWithin, PairMarked, Marked, Trailed, done, step, StretchEnd, Covered, PairAdded, FactorsAdded, EdgesAdded}
use Rattle.marking.proofs.Squares.{marked_more}
use Rattle.clauses.proofs.Pieces.{no_factor}
use Rattle.marking.proofs.Trails.{in_b_at, trailed_forward, first_factor}

-- one hop of a trail read
abbrev Next : List Bool → Trail → ℕ → ℕ → Path → Type 0
Next inb trail hi lo π = (h : Hop) × (ρ : Path) × (π ≡ h ∷ ρ) × (get_or trail.edges lo 0 ≡ length h.older) × (in_b_at inb trail lo ≡ is_b h.colour) × Trailed inb trail hi (suc lo) ρ

module _ (inb : List Bool) (trail : Trail) (lo hi : ℕ) (b : Bool) where
  -- ---- factors

  -- the factors before place `at` are marked
  pub record FactorsUpTo (pairs₀ rows₀ : List Bool) (at : ℕ) (pairs rows : List Bool) : Type 0 where
    pub after : lo ≤ at
    pub within : at ≤ hi
    pub same : length pairs ≡ length pairs₀
    pub cover : Covered pairs₀ rows₀ → Covered pairs rows
    pub reads : (π : Path) → Trailed inb trail hi lo π → (ρ : Path) × Trailed inb trail hi at ρ × ((p : Pair) → PairWithin 511 p → (PairMarked pairs₀ p ⊎ EndOf b π p) ↔ (PairMarked pairs p ⊎ EndOf b ρ p))

  module _ (pairs₀ rows₀ pairs rows : List Bool) (at r : ℕ) (s : StretchEnd inb trail at hi r) (u : FactorsUpTo pairs₀ rows₀ at pairs rows) where
    -- a factor of the colour: its ends are marked
    pub factors_mark : (pairs' rows' : List Bool) → in_b_at inb trail at ≡ b → PairAdded (between (get_or trail.stops at 0) (get_or trail.stops r 0)) pairs rows pairs' rows' → FactorsUpTo pairs₀ rows₀ r pairs' rows'
    factors_mark pairs' rows' e m =
        record {
          after = omega (arith, u.after, s.begins);
          within = s.inside;
          same = m.same ∙ u.same;
          cover = λ c. m.cover (u.cover c);
          reads = λ π t. let y = u.reads π t in let f = first_factor inb trail hi r s y.1 in (f.rest, f.behind, λ p w. (λ x. ⊎_elim (λ z. inl ((m.added p w).1 (inl z))) (λ z. ⊎_elim (λ q. inl ((m.added p w).1 (inr q.1))) inr ((f.ends b p).0 z)) ((y.2 p w).0 x), λ x. (y.2 p w).1 (⊎_elim (λ z. ⊎_elim inl (λ q. inr ((f.ends b p).1 (inl (e, q)))) ((m.added p w).0 z)) (λ z. inr ((f.ends b p).1 (inr z))) x)));
        }

    -- a factor of the other colour is passed over
    pub factors_skip : (in_b_at inb trail at ≡ b → ⊥) → FactorsUpTo pairs₀ rows₀ r pairs rows
    factors_skip d =
        record {
          after = omega (arith, u.after, s.begins);
          within = s.inside;
          same = u.same;
          cover = u.cover;
          reads = λ π t. let y = u.reads π t in let f = first_factor inb trail hi r s y.1 in (f.rest, f.behind, λ p w. (λ x. ⊎_elim inl (λ z. ⊎_elim (λ q. absurd (d q.0)) inr ((f.ends b p).0 z)) ((y.2 p w).0 x), λ x. (y.2 p w).1 (⊎_elim inl (λ z. inr ((f.ends b p).1 (inr z))) x)));
        }

  -- an empty rest has no factor
  no_end : {i : ℕ} {ρ : Path} (p : Pair) → hi ≤ i → Trailed inb trail hi i ρ → EndOf b ρ p → ⊥
  no_end p h (done q) e = no_factor e.1
  no_end p h (step x y z w t) e = omega (arith, trailed_forward inb trail hi t)

  -- all of them
  pub factors_all : (pairs₀ rows₀ pairs rows : List Bool) (at : ℕ) → hi ≤ at → FactorsUpTo pairs₀ rows₀ at pairs rows → FactorsAdded inb trail lo hi b pairs₀ rows₀ pairs rows
  factors_all pairs₀ rows₀ pairs rows at h u =
      record {
        same = u.same;
        added = λ π t p w. let y = u.reads π t in (λ x. (y.2 p w).1 (inl x), λ x. ⊎_elim (λ z. z) (λ z. absurd (no_end p h y.1 z)) ((y.2 p w).0 x));
        cover = u.cover;
      }

  -- ---- edges

  -- the edges before place i are marked
  pub record EdgesUpTo (marks₀ : List Bool) (i : ℕ) (marks : List Bool) : Type 0 where
    pub after : lo ≤ i
    pub within : i ≤ hi
    pub reads : (π : Path) → Trailed inb trail hi lo π → (ρ : Path) × Trailed inb trail hi i ρ × ((k : ℕ) → (Marked marks₀ k ⊎ EdgeOf b π k) ↔ (Marked marks k ⊎ EdgeOf b ρ k))

  -- the hop at a place before the end
  next_hop : {i : ℕ} {ρ : Path} → i < hi → Trailed inb trail hi i ρ → Next inb trail hi i ρ
  next_hop h (done q) = absurd (omega (arith, q))
  next_hop h (step {h = g} {π = σ} x y z w t) = (g, σ, refl, z, w, t)

  -- the edges of the rest are the edge at the place, where it has the colour, and those after it
  next_edges : {i : ℕ} {ρ : Path} (n : Next inb trail hi i ρ) (k : ℕ) → EdgeOf b ρ k ↔ (((in_b_at inb trail i ≡ b) × (k ≡ get_or trail.edges i 0)) ⊎ EdgeOf b n.1 k)
  next_edges n k =
      (λ e. ⊎_elim (λ q. inl (n.4 ∙ ap (λ (h : Hop). is_b h.colour) (sym q) ∙ e.2, sym (n.3 ∙ ap (λ (h : Hop). length h.older) (sym q) ∙ e.3))) (λ m. inr (e.0, m, e.2, e.3)) (Memᴰ.cases_cons (subst (Memᴰ e.0) n.2 e.1)), λ e. ⊎_elim (λ q. (n.0, subst (Memᴰ n.0) (sym n.2) (Memᴰ.head refl), sym n.4 ∙ q.0, sym n.3 ∙ sym q.1)) (λ m. (m.0, subst (Memᴰ m.0) (sym n.2) (Memᴰ.tail m.1), m.2, m.3)) e)

  module _ (marks₀ marks : List Bool) (i : ℕ) (h : i < hi) (low : get_or trail.edges i 0 < 510) (u : EdgesUpTo marks₀ i marks) where
    -- an edge of the colour is marked
    pub edges_mark : length marks ≡ 510 → in_b_at inb trail i ≡ b → EdgesUpTo marks₀ (i + 1) (set marks (get_or trail.edges i 0) true)
    edges_mark long e =
        record {
          after = omega (arith, u.after);
          within = omega arith;
          reads = λ π t. let y = u.reads π t in let n = next_hop h y.1 in (n.1, subst (λ (m : ℕ). Trailed inb trail hi m n.1) (sym (add-one i)) n.5, λ k. let more = marked_more marks (get_or trail.edges i 0) k (omega (arith, long)) in (λ x. ⊎_elim (λ z. inl (more.1 (inl z))) (λ z. ⊎_elim (λ q. inl (more.1 (inr q.1))) inr ((next_edges n k).0 z)) ((y.2 k).0 x), λ x. (y.2 k).1 (⊎_elim (λ z. ⊎_elim inl (λ q. inr ((next_edges n k).1 (inl (e, q)))) (more.0 z)) (λ z. inr ((next_edges n k).1 (inr z))) x)));
        }

    -- one of the other colour is passed over
    pub edges_skip : (in_b_at inb trail i ≡ b → ⊥) → EdgesUpTo marks₀ (i + 1) marks
    edges_skip d =
        record {
          after = omega (arith, u.after);
          within = omega arith;
          reads = λ π t. let y = u.reads π t in let n = next_hop h y.1 in (n.1, subst (λ (m : ℕ). Trailed inb trail hi m n.1) (sym (add-one i)) n.5, λ k. (λ x. ⊎_elim inl (λ z. ⊎_elim (λ q. absurd (d q.0)) inr ((next_edges n k).0 z)) ((y.2 k).0 x), λ x. (y.2 k).1 (⊎_elim inl (λ z. inr ((next_edges n k).1 (inr z))) x)));
        }

  -- an empty rest has no edge
  no_edge : {i : ℕ} {ρ : Path} (k : ℕ) → hi ≤ i → Trailed inb trail hi i ρ → EdgeOf b ρ k → ⊥
  no_edge k h (done q) e = Memᴰ.not-nil e.1
  no_edge k h (step x y z w t) e = omega (arith, trailed_forward inb trail hi t)

  -- all of them
  pub edges_all : (marks₀ marks : List Bool) (i : ℕ) → hi ≤ i → EdgesUpTo marks₀ i marks → EdgesAdded inb trail lo hi b marks₀ marks
  edges_all marks₀ marks i h u = λ π t k. let y = u.reads π t in (λ x. (y.2 k).1 (inl x), λ x. ⊎_elim (λ z. z) (λ z. absurd (no_edge k h y.1 z)) ((y.2 k).0 x))

  -- the A-edges are marked where clauses are read
  pub record UnderDone (under under' : List Bool) : Type 0 where
    pub sized : length under' ≡ 510
    pub followed : (π : Path) → Trailed inb trail hi lo π → (k : ℕ) → Marked under' k ↔ (Marked under k ⊎ ((b ≡ false) × EdgeOf b π k))

  -- where clauses are read, the A-edges are marked
  pub under_count : (under under' : List Bool) → b ≡ false → length under' ≡ 510 → EdgesAdded inb trail lo hi false under under' → UnderDone under under'
  under_count under under' e s f =
      record { sized = s; followed = λ π t k. let y = f π t k in (λ x. ⊎_elim inl (λ z. inr (e, subst (λ (c : Bool). EdgeOf c π k) (sym e) z)) (y.0 x), λ x. y.1 (⊎_elim inl (λ z. inr (subst (λ (c : Bool). EdgeOf c π k) e z.1)) x)) }

  -- where premises are read, nothing is
  pub under_left : (under : List Bool) → b ≡ true → length under ≡ 510 → UnderDone under under
  under_left under e s = record { sized = s; followed = λ π t k. (inl, λ x. ⊎_elim (λ z. z) (λ z. absurd (true≢false (sym e ∙ z.0))) x) }

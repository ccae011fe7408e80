-- An array that is filled from the front, and the columns of a graph's edges.
use mathlib.Core.Bool.{false}
use mathlib.Core.List.{List}
use mathlib.Core.Logic.{⊎_elim}
use mathlib.Core.Path.{◌≡◌, sym, ap, ◌∙◌}
use Prim.Native.Nat.{ℕ, ◌+◌, ◌≤◌, ◌<◌}
use native.Mathlib.Nat.{not-suc-le-zero}
use native.Mathlib.Omega.{arith}
use lib.ListN.{length, get_or, set, replicate, length-set, length-replicate}
use lib.Seq.{get_or-set_same, get_or-set_other}
use Rattle.tables.proofs.Words.{below_or_is}
use Rattle.closure.specs.declared.Edge.{Edge}
use Rattle.closure.specs.Forests.{Each}
use Rattle.graphs.specs.Layout.{no_edge, newest_first}
use Rattle.graphs.proofs.Numbered.{last_first_length, by_each}
use Rattle.marking.specs.Marks.{is_b}
use Rattle.marking.specs.Drawn.{is_derived, PartsAt}
use Rattle.marking.specs.declared.edges.Columns.{Columns}

-- the first i places of an array of a size say what f says
pub record Filled {ℓ} {X : Type ℓ} (d : X) (size : ℕ) (f : ℕ → X) (i : ℕ) (xs : List X) : Type ℓ where
  pub long : length xs ≡ size
  pub at : (k : ℕ) → k < i → get_or xs k d ≡ f k

-- none yet
pub filled_none {ℓ} : {X : Type ℓ} (d : X) (size : ℕ) (f : ℕ → X) → Filled d size f 0 (replicate size d)
filled_none d size f = record { long = length-replicate size d; at = λ k l. absurd (not-suc-le-zero l) }

-- one place more
pub filled_more {ℓ} : {X : Type ℓ} (d : X) (size : ℕ) (f : ℕ → X) (i : ℕ) (xs : List X) (x : X) → i < size → Filled d size f i xs → x ≡ f i → Filled d size f (i + 1) (set xs i x)
filled_more d size f i xs x h w e =
    record {
      long = length-set xs i x ∙ w.long;
      at = λ k l. ⊎_elim
          (λ (b : k < i). get_or-set_other xs i k x d (λ (q : k ≡ i). omega arith) ∙ w.at k b)
          (λ (q : k ≡ i). ap (λ (j : ℕ). get_or (set xs i x) j d) q ∙ get_or-set_same xs i x d (omega (arith, w.long)) ∙ e ∙ ap f (sym q))
          (below_or_is k i (omega arith));
    }

module _ (es : List Edge) where
  -- the columns hold the first i edges
  pub record Laid (i : ℕ) (c : Columns) : Type 0 where
    pub lefts : Filled 0 510 (λ k. (get_or es k no_edge).left) i c.lefts
    pub rights : Filled 0 510 (λ k. (get_or es k no_edge).right) i c.rights
    pub inb : Filled false 510 (λ k. is_b (get_or es k no_edge).colour) i c.inb
    pub derived : Filled false 510 (λ k. is_derived (get_or es k no_edge).kind) i c.derived

  -- all edges stand under their numbers
  pub laid_all : (n i : ℕ) (c : Columns) → n ≤ i → Laid i c → Each (PartsAt c.lefts c.rights c.inb c.derived) (newest_first n es)
  laid_all n i c h w =
      by_each (PartsAt c.lefts c.rights c.inb c.derived) es n
      (λ k l. let m = last_first_length no_edge k es in
      record {
        left_at = ap (λ (j : ℕ). get_or c.lefts j 0) m ∙ w.lefts.at k (omega arith);
        right_at = ap (λ (j : ℕ). get_or c.rights j 0) m ∙ w.rights.at k (omega arith);
        colour_at = ap (λ (j : ℕ). get_or c.inb j false) m ∙ w.inb.at k (omega arith);
        kind_at = ap (λ (j : ℕ). get_or c.derived j false) m ∙ w.derived.at k (omega arith);
      })

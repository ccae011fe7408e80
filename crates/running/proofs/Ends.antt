-- Where a search among keys may stop: the ends of the residues as they are laid down, and that no partner stands behind them.
use mathlib.Core.List.{List, []}
use mathlib.Core.Logic.{⊎_elim}
use mathlib.Core.Path.{◌≡◌, sym, ap, subst}
use Prim.Native.Nat.{ℕ, ◌+◌, ◌%◌, ◌≤◌, ◌<◌}
use native.Mathlib.Nat.{mod-lt}
use native.Mathlib.Omega.{arith}
use borrow.Author.Tests.{eqb-true, eqb-false}
use lib.Dec.{T, eqb}
use lib.ListN.{length, get_or, set, replicate}
use lib.Seq.{get_or-set_same, get_or-set_other}
use Rattle.tables.proofs.Words.{by_test, below_or_is}
use Rattle.std.proofs.Common.{Bool, true, false, Option, Some, None}
use Rattle.std.specs.Option.{MatchOption}
use Rattle.running.specs.Keys.{EndsOf, candidate, NextFrom}
use Rattle.running.specs.declared.state.State.{State as Arrays}
use Rattle.running.proofs.Arrays.{zeros_behind}
use Rattle.running.proofs.Candidates.{candidate_parts}

-- before the first term there is no end
pub no_ends : (keys : List ℕ) (n : ℕ) → EndsOf keys 0 (replicate n 0)
no_ends keys n = record { before = λ t h. absurd (omega arith); within = λ r. omega (arith, zeros_behind [] n r) }

module _ (keys ends : List ℕ) (t : ℕ) (long : length ends ≡ 1021) (so_far : EndsOf keys t ends) where
  abbrev at : ℕ
  at = get_or keys t 0 % 1021

  at_within : at < length ends
  at_within = omega (arith, mod-lt (get_or keys t 0) {m = 1021} (omega arith))

  -- what stands at a residue after t is laid down
  at_residue : (r : ℕ) (P : ℕ → Type 0) → P (t + 1) → P (get_or ends r 0) → P (get_or (set ends at (t + 1)) r 0)
  at_residue r P new old =
      by_test (eqb r at)
      (λ e. let q : r ≡ at = eqb-true r at e in
      subst (λ (k : ℕ). P (get_or (set ends at (t + 1)) k 0)) (sym q) (subst P (sym (get_or-set_same ends at (t + 1) 0 at_within)) new))
      (λ e. subst P (sym (get_or-set_other ends at r (t + 1) 0 (eqb-false r at e))) old)

  -- one term more
  pub ends_more : EndsOf keys (t + 1) (set ends at (t + 1))
  ends_more =
      record {
        before = λ k h. ⊎_elim
            (λ (l : k < t). at_residue (get_or keys k 0 % 1021) (λ e. k < e) (omega arith) (so_far.before k l))
            (λ (q : k ≡ t). omega (arith, ap (λ (j : ℕ). get_or (set ends at (t + 1)) (get_or keys j 0 % 1021) 0) q, get_or-set_same ends at (t + 1) 0 at_within))
            (below_or_is k t (omega arith));
        within = λ r. at_residue r (λ e. e ≤ t + 1) (omega arith) (omega (arith, so_far.within r));
      }

-- a candidate for a partner of s stands before the end of the residue of s
pub before_end : (keys : List ℕ) (a : Arrays) (ends : List ℕ) (given s k : ℕ) → EndsOf keys given ends → k < given → T (candidate keys a s k) → k < get_or ends (get_or keys s 0 % 1021) 0
before_end keys a ends given s k all h w =
    subst (λ (key : ℕ). k < get_or ends (key % 1021) 0) (sym (candidate_parts keys a s k w).1) (all.before k h)

-- what is found first before an end is found first at all, where nothing stands behind the end
pub next_from : (p : ℕ → Bool) (from n end : ℕ) → end ≤ n → ((k : ℕ) → k < n → T (p k) → k < end) → (r : Option ℕ) → MatchOption r ((k : ℕ) → from ≤ k → k < end → ¬ (T (p k))) (λ i. (from ≤ i) × (i < end) × T (p i) × ((k : ℕ) → from ≤ k → k < i → ¬ (T (p k)))) → NextFrom p from n r
next_from p from n end fits behind None h = λ k l m w. h k l (behind k m w) w
next_from p from n end fits behind (Some i) (l, m, w, before) = (l, omega (arith, fits), w, before)

-- what fails does not pass
pub not_passes : (b : Bool) → b ≡ false → ¬ (T b)
not_passes false e w = w
not_passes true e w = cc

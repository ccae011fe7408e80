-- What a candidate for a partner is: a pair on which a derived step can be taken is one, and so is no pair that the search passes over.
use mathlib.Core.Bool.{Bool, true, not, ◌&&◌}
use mathlib.Core.List.{List}
use mathlib.Core.Path.{◌≡◌}
use Prim.Native.Nat.{ℕ}
use borrow.Author.Tests.{eq-eqb, ne_eqb}
use lib.Dec.{T, eqb, eqb→eq, T_not}
use lib.ListN.{get_or}
use Rattle.tables.proofs.Words.{and_left, and_right, and_both, passes, fails}
use Rattle.running.specs.Keys.{candidate}
use Rattle.running.specs.declared.state.State.{State as Arrays}

module _ (keys : List ℕ) (a : Arrays) (s t : ℕ) where
  -- the last two tests, as the code makes them
  abbrev pub others : Bool
  others = eqb (get_or a.symbols s 0) (get_or a.symbols t 0) && not (eqb (get_or a.labels s 0) (get_or a.labels t 0))

  -- a term without a key has no partner
  pub no_candidate : get_or keys s 0 ≡ 0 → T (candidate keys a s t) → ⊥
  unfolding candidate
  no_candidate e h = T_not (eqb (get_or keys s 0) 0) (and_left (not (eqb (get_or keys s 0) 0)) (eqb (get_or keys s 0) (get_or keys t 0) && others) h) (passes (eqb (get_or keys s 0) 0) (eq-eqb (get_or keys s 0) 0 e))

  -- one of which all tests pass is a candidate
  pub is_candidate : (get_or keys s 0 ≡ 0 → ⊥) → get_or keys s 0 ≡ get_or keys t 0 → others ≡ true → T (candidate keys a s t)
  unfolding candidate
  is_candidate f e o =
      and_both (not (eqb (get_or keys s 0) 0)) (eqb (get_or keys s 0) (get_or keys t 0) && others)
      (fails (eqb (get_or keys s 0) 0) (ne_eqb (get_or keys s 0) 0 f))
      (and_both (eqb (get_or keys s 0) (get_or keys t 0)) others (passes (eqb (get_or keys s 0) (get_or keys t 0)) (eq-eqb (get_or keys s 0) (get_or keys t 0) e)) (passes others o))

  -- what its tests say
  pub candidate_parts : T (candidate keys a s t) → (get_or keys s 0 ≡ 0 → ⊥) × (get_or keys s 0 ≡ get_or keys t 0) × (get_or a.symbols s 0 ≡ get_or a.symbols t 0) × T (not (eqb (get_or a.labels s 0) (get_or a.labels t 0)))
  unfolding candidate
  candidate_parts h =
      let key = not (eqb (get_or keys s 0) 0) in
      let keyed = eqb (get_or keys s 0) (get_or keys t 0) in
      let alike = eqb (get_or a.symbols s 0) (get_or a.symbols t 0) in
      let apart = not (eqb (get_or a.labels s 0) (get_or a.labels t 0)) in
      let rest = and_right key (keyed && others) h in
      let last = and_right keyed others rest in
      ((λ e. no_candidate e h), eqb→eq (get_or keys s 0) (get_or keys t 0) (and_left keyed others rest), eqb→eq (get_or a.symbols s 0) (get_or a.symbols t 0) (and_left alike apart last), and_right alike apart last)

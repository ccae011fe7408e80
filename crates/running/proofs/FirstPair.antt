-- The first pair that passes a test, in the order "smallest s, then smallest t": it passes, and no pair before it does.
use Rattle.std.proofs.Common.{Some, None}
use mathlib.Core.Bool.{Bool}
use mathlib.Core.List.Memᴰ
use mathlib.Core.List.{List, ◌∷◌, ◌++◌, map, map-append, append_assoc, flat_map, Memᴰ}
use mathlib.Core.Logic.{◌⊎◌, inl, inr, ⊎_elim}
use mathlib.Core.Path.{◌≡◌, refl, sym, ap, subst, ◌∙◌}
use Prim.Native.Nat.{ℕ, ◌<◌}
use native.Mathlib.Omega.{arith}
use borrow.Author.Tests.{lt-ltb}
use lib.Dec.{T, ltb, ltb→lt}
use Rattle.tables.specs.Words.{below, keep, first_of, Pair, pair, pairs_below}
use Rattle.tables.proofs.Words.{below_mem, keep_mem, flat_map_mem, pairs_below_mem, keep_passes, keep_append, none_first_of, first_of_is, flat_map_append, below_split, pairs_below_rows}

-- ---- the pairs below n, split at one of them

-- the pairs of s: those with a partner below t, the pair of s and t, and others
row_split : (n s t : ℕ) → s < t → t < n → (rest : List Pair) × (map (pair s) (keep (ltb s) (below n)) ≡ map (pair s) (keep (ltb s) (below t)) ++ (pair s t ∷ rest))
row_split n s t h l =
    let r = below_split n t l in (
      map (pair s) (keep (ltb s) r.0),
      ap (λ (xs : List ℕ). map (pair s) (keep (ltb s) xs)) r.1 ∙
          ap (map (pair s)) (keep_append (ltb s) (below t) (t ∷ r.0) ∙ ap (λ (l : List ℕ). keep (ltb s) (below t) ++ l) (keep_passes (ltb s) t r.0 (lt-ltb s t h))) ∙
          map-append (pair s) (keep (ltb s) (below t)) (t ∷ keep (ltb s) r.0),
    )

-- ---- the first pair

-- the pair of a and b comes before the pair of s and t
abbrev pub Before : ℕ → ℕ → ℕ → ℕ → Type 0
Before s t a b = (a < s) ⊎ ((a ≡ s) × (b < t))

module _ (n : ℕ) (p : Pair → Bool) where
  -- no pair passes
  pub no_pair : ((a b : ℕ) → a < b → b < n → T (p (pair a b)) → ⊥) → first_of p (pairs_below n) ≡ None
  no_pair f = none_first_of p (pairs_below n) (λ x m h. let w = pairs_below_mem n x m in f x.left x.right w.0 w.1 h)

  -- a pair passes, and none before it
  pub first_pair_is : (s t : ℕ) → s < t → t < n → T (p (pair s t)) → ((a b : ℕ) → a < b → b < n → Before s t a b → T (p (pair a b)) → ⊥) → first_of p (pairs_below n) ≡ Some (pair s t)
  unfolding flat_map
  first_pair_is s t h l passing f =
      let row : ℕ → List Pair = λ a. map (pair a) (keep (ltb a) (below n)) in
      let r = below_split n s (omega arith) in
      let q = row_split n s t h l in
      let front : List Pair = flat_map row (below s) ++ map (pair s) (keep (ltb s) (below t)) in
      let rest : List Pair = q.0 ++ flat_map row r.0 in
      let split : flat_map row (below n) ≡ front ++ (pair s t ∷ rest) =
      ap (flat_map row) r.1 ∙ flat_map_append row (below s) (s ∷ r.0) ∙
      ap (λ (l : List Pair). flat_map row (below s) ++ (l ++ flat_map row r.0)) q.1 ∙
      ap (λ (l : List Pair). flat_map row (below s) ++ l) (append_assoc (map (pair s) (keep (ltb s) (below t))) (pair s t ∷ q.0) (flat_map row r.0)) ∙
      sym (append_assoc (flat_map row (below s)) (map (pair s) (keep (ltb s) (below t))) (pair s t ∷ rest)) in
      ap (first_of p) (pairs_below_rows n ∙ split) ∙ first_of_is p front (pair s t) rest (λ y m. ⊎_elim (earlier y) (here y) (Memᴰ.append_cases (flat_map row (below s)) m)) passing
    where
      earlier : (y : Pair) → Memᴰ y (flat_map (λ a. map (pair a) (keep (ltb a) (below n))) (below s)) → T (p y) → ⊥
      earlier y m k =
          let r = flat_map_mem (λ a. map (pair a) (keep (ltb a) (below n))) (below s) m in
          let q = Memᴰ.of_map (pair r.0) (keep (ltb r.0) (below n)) r.2 in
          let w = keep_mem (ltb r.0) (below n) q.1 in
          f r.0 q.0 (ltb→lt r.0 q.0 w.1) (below_mem n w.0) (inl (below_mem s r.1)) (subst (λ (z : Pair). T (p z)) (sym q.2) k)

      here : (y : Pair) → Memᴰ y (map (pair s) (keep (ltb s) (below t))) → T (p y) → ⊥
      here y m k =
          let q = Memᴰ.of_map (pair s) (keep (ltb s) (below t)) m in
          let w = keep_mem (ltb s) (below t) q.1 in
          let b : q.0 < t = below_mem t w.0 in
          f s q.0 (ltb→lt s q.0 w.1) (omega arith) (inr (refl, b)) (subst (λ (z : Pair). T (p z)) (sym q.2) k)

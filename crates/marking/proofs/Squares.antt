-- The square of marked pairs: a pair has one place, and a mark more is one pair more.
use mathlib.Core.Bool.{Bool, true, false}
use mathlib.Core.List.{List}
use mathlib.Core.Logic.{◌⊎◌, inl, inr, ⊎_elim, ◌↔◌}
use mathlib.Core.Path.{◌≡◌, sym, ap, subst, ◌∙◌}
use Prim.Native.Nat.{ℕ, ◌+◌, ◌*◌, ◌≤◌, ◌<◌, min, max}
use native.Mathlib.Omega.{arith}
use lib.Dec.{T, eqb, eqb→eq, eqb_refl}
use lib.ListN.{length, get_or, set, length-set}
use lib.Seq.{get_or-set_same, get_or-set_other}
use Rattle.tables.specs.Words.{Pair}
use Rattle.tables.proofs.Words.{passes, by_test}
use Rattle.clauses.specs.Clauses.{between}
use Rattle.marking.specs.Marks.{PairWithin, place_of, PairMarked, Marked, PairAdded}
use Rattle.clauses.proofs.Order.{between_cases, between_either}

-- ---- marks

-- two numbers are one or differ
pub same_or_not : {C : Type 0} (k t : ℕ) → (k ≡ t → C) → ((k ≡ t → ⊥) → C) → C
same_or_not k t f g =
    by_test (eqb k t)
    (λ e. f (eqb→eq k t (passes (eqb k t) e)))
    (λ e. g (λ d. subst T e (subst (λ (x : ℕ). T (eqb k x)) d (eqb_refl k))))

-- with one mark more, that place is marked and what was
pub marked_more : (marks : List Bool) (t k : ℕ) → t < length marks → Marked (set marks t true) k ↔ (Marked marks k ⊎ (k ≡ t))
marked_more marks t k h =
    same_or_not k t
    (λ e. (λ m. inr e, λ m. passes (get_or (set marks t true) k false) (ap (λ (x : ℕ). get_or (set marks t true) x false) e ∙ get_or-set_same marks t true false h)))
    (λ d. let q = get_or-set_other marks t k true false d in (λ m. inl (subst T q m), λ m. ⊎_elim (λ x. subst T (sym q) x) (λ e. absurd (d e)) m))

-- ---- pairs

-- a pair in the square
abbrev pub InSquare : Pair → Type 0
InSquare p = (p.left < 511) × (p.right < 511)

-- no two of them have one place
pub one_place : (p q : Pair) → InSquare p → InSquare q → place_of p ≡ place_of q → p ≡ q
one_place p q h k e =
    let l : p.left ≡ q.left = omega (arith, h.0, h.1, k.0, k.1, e) in
    let r : p.right ≡ q.right = omega (arith, l, e) in
    λ i. record { left = l i; right = r i }

-- a pair with its left end lower
pub within_square : (p : Pair) → PairWithin 511 p → InSquare p
within_square p h = (omega (arith, h.0, h.1), h.1)

-- [p] of two vertices has the lower one left
pub between_ends : (u v : ℕ) → ((between u v).left ≡ min u v) × ((between u v).right ≡ max u v)
between_ends u v =
    let left = λ (p : Pair). p.left in
    let right = λ (p : Pair). p.right in
    ⊎_elim (λ c. (omega (arith, c.0, ap left c.1), omega (arith, c.0, ap right c.1))) (λ c. (omega (arith, c.0, ap left c.1), omega (arith, c.0, ap right c.1))) (between_cases u v)

-- [p] of two vertices is in the square, the place is found by the lower one
pub between_square : (u v : ℕ) → u < 511 → v < 511 → InSquare (between u v)
between_square u v h k = between_either InSquare u v (h, k) (k, h)

-- its place is in a square that has the rows of both
pub between_place : (u v size : ℕ) → u < 511 → v < 511 → 511 * u + 511 ≤ size → 511 * v + 511 ≤ size → place_of (between u v) < size
between_place u v size h k hu hv = between_either (λ p. place_of p < size) u v (omega arith) (omega arith)

-- one mark more in the square, and in its row
pub pair_added : (q : Pair) (pairs rows : List Bool) (i j : ℕ) → i ≡ place_of q → j ≡ q.left → InSquare q → place_of q < length pairs → length rows ≡ 511 → PairAdded q pairs rows (set pairs i true) (set rows j true)
pair_added q pairs rows i j ei ej h f n =
    let more : (p : Pair) → PairWithin 511 p → PairMarked (set pairs i true) p ↔ (PairMarked pairs p ⊎ (p ≡ q)) = λ p w. let r = marked_more pairs i (place_of p) (omega (arith, ei, f)) in (λ x. ⊎_elim inl (λ e. inr (one_place p q (within_square p w) h (e ∙ ei))) (r.0 x), λ x. r.1 (⊎_elim inl (λ e. inr (ap place_of e ∙ sym ei)) x)) in
    record {
      same = length-set pairs i true;
      added = more;
      cover = λ c p w x. (marked_more rows j p.left (omega (arith, ej, h.0, n))).1 (⊎_elim (λ y. inl (c p w y)) (λ e. inr (ap (λ (z : Pair). z.left) e ∙ sym ej)) ((more p w).0 x));
    }

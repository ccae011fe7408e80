-- What the tests of specs/ say, as facts: each test passes exactly when the fact holds.
use mathlib.Core.Bool.{Bool, not, ◌&&◌, ◌||◌}
use mathlib.Core.Logic.{◌↔◌, ◌⊎◌, inl, inr, ⊎_elim}
use mathlib.Core.Path.{◌≡◌, subst}
use Prim.Native.Nat.{ℕ, ◌≤◌, ◌<◌}
use native.Mathlib.Omega.{arith}
use lib.Dec.{T, eqb, ltb, leb, eqb→eq, eqb_refl, ltb→lt, lt→ltb, nltb→le, leb→le, le→leb, T_not, not_T}
use Rattle.tables.specs.Tests.{some_below}
use Rattle.tables.proofs.Words.{and_left, and_right, and_both, or_cases, or_left, or_right, decide, some_below_some, some_some_below}

-- two numbers are tested to be equal
pub eq_test : (a b : ℕ) → T (eqb a b) ↔ (a ≡ b)
eq_test a b = (eqb→eq a b, λ e. subst (λ (x : ℕ). T (eqb a x)) e (eqb_refl a))

-- one is tested to be lower
pub lt_test : (a b : ℕ) → T (ltb a b) ↔ (a < b)
lt_test a b = (ltb→lt a b, lt→ltb a b)

-- one is tested to be at most the other
pub le_test : (a b : ℕ) → T (leb a b) ↔ (a ≤ b)
le_test a b = (leb→le a b, le→leb a b)

-- a test negated
pub not_test : (b : Bool) (P : Type 0) → T b ↔ P → T (not b) ↔ (P → ⊥)
not_test b P f = (λ h p. T_not b h (f.1 p), λ h. not_T b (λ t. h (f.0 t)))

-- two numbers are tested to differ
pub ne_test : (a b : ℕ) → T (not (eqb a b)) ↔ (a ≡ b → ⊥)
ne_test a b = not_test (eqb a b) (a ≡ b) (eq_test a b)

-- both tests
pub and_test : (a b : Bool) (P Q : Type 0) → T a ↔ P → T b ↔ Q → T (a && b) ↔ (P × Q)
and_test a b P Q f g = (λ h. (f.0 (and_left a b h), g.0 (and_right a b h)), λ pq. and_both a b (f.1 pq.0) (g.1 pq.1))

-- by cases on which of two tests passes
pub either : {C : Type 0} (a b : Bool) → (T a → C) → (T b → C) → T (a || b) → C
either a b f g h = ⊎_elim f g (or_cases a b h)

-- one of two tests
pub or_test : (a b : Bool) (P Q : Type 0) → T a ↔ P → T b ↔ Q → T (a || b) ↔ (P ⊎ Q)
or_test a b P Q f g =
    (either a b (λ t. inl (f.0 t)) (λ t. inr (g.0 t)), ⊎_elim (λ p. or_left a b (f.1 p)) (λ q. or_right a b (g.1 q)))

-- the test of some number below n
pub some_test : (p : ℕ → Bool) (n : ℕ) (P : ℕ → Type 0) → ((j : ℕ) → T (p j) ↔ P j) → T (some_below p n) ↔ ((j : ℕ) × (j < n) × P j)
some_test p n P f =
    (λ h. let r = some_below_some p n h in (r.0, r.1, (f r.0).0 r.2), λ r. some_some_below p n r.0 r.1 ((f r.0).1 r.2))

-- two equal numbers cannot be unequal, and the other way round
pub not_unequal : (a b : ℕ) → ((a ≡ b → ⊥) → ⊥) ↔ (a ≡ b)
not_unequal a b = (λ h. ⊎_elim (eqb→eq a b) (λ t. absurd (h ((ne_test a b).0 t))) (decide (eqb a b)), λ e h. h e)

-- what is not above is at most
pub not_above : (a b : ℕ) → (a < b → ⊥) ↔ (b ≤ a)
not_above a b = (λ h. nltb→le a b (not_T (ltb a b) (λ t. h (ltb→lt a b t))), λ l h. omega arith)

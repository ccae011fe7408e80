-- What the library's searches say in the words of 01: `find` over the numbers below a count is the first such, `any` is some such, `==` of
-- byte strings is the same.
use Rattle.std.proofs.Common.{Option, Some, None, List, [], ◌∷◌, ◌++◌, Bool, true, false, ◌||◌, ◌&&◌, nat_eq, ◌≡◌, ℕ, zero, suc, ◌≤◌, ◌<◌, refl, sym, ap, subst, ◌∙◌, arith, map-id, add-one, ◌+◌}
use Rattle.std.proofs.iter.Yields.{nat_range_steps}
use Rattle.std.proofs.lemmas.Iterator.{first_from_Range, YieldsList-from_range}
use Rattle.std.proofs.lemmas.Iterator.Search.{any_from_yields_List}
use Rattle.std.proofs.lemmas.List.FromFn.{map-range_with_len_more}
use Rattle.std.specs.Fn.{Called, CalledAt}
use Rattle.std.specs.Bool.{⊤}
use Rattle.std.specs.Iterator.{YieldsThen}
use Rattle.std.specs.List.{FoldsTo, range_with_len, list_any}
use Rattle.std.specs.Option.{MatchOption}
use denote.Param.Members.{Mut}
use denote.Ref.{Bor}
use lib.Dec.{T, eqb}
use lib.Pointwise.{pointwise}
use Rattle.std.specs.declared.ops.Range.{Range}
use Rattle.tables.specs.Words.{below, any, same, first_below}
use Rattle.tables.specs.Tests.{some_below}
use Rattle.tables.proofs.Words.{passes, first_below_some, first_is}

-- `find` over the numbers below n
pub found_first :
    {F : Type 0} {g : Mut F (Bor ℕ × Unit {0}) Bool} (p : ℕ → Bool) (s u : Range ℕ) (f : F) (r : Option ℕ) →
    (xs : List ℕ) × (j : F) × YieldsThen nat_range_steps s xs r u × FoldsTo (λ p x q. CalledAt g p x false q) f xs j × MatchOption r ⊤ (λ x. (h : F) × CalledAt g j x true h) →
    s.start ≡ 0 →
    ((x : ℕ) (b : Bool) (q : F) → CalledAt g f x b q → (q ≡ f) × (x < s.end → b ≡ p x)) →
    r ≡ first_below p s.end
found_first p s u f r ran start call =
    go r
    (first_from_Range s u f r (λ k. k < s.end → p k ≡ true) (λ k. k < s.end → p k ≡ false) ran
    (λ x q k h. sym ((call x true q k).1 h))
    (λ x q k. let w = call x false q k in (w.0, λ h. sym (w.1 h))))
  where
    go : (o : Option ℕ) → MatchOption o ((k : ℕ) → s.start ≤ k → k < s.end → k < s.end → p k ≡ false) (λ i. (s.start ≤ i) × (i < s.end) × (i < s.end → p i ≡ true) × ((k : ℕ) → s.start ≤ k → k < i → k < s.end → p k ≡ false)) → o ≡ first_below p s.end
    go (Some i) m =
        sym ((first_is p (λ j. T (p j)) (λ j. (λ w. w, λ w. w)) s.end i).1
        (record { within = m.1; such = passes (p i) (m.2 m.1); none_before = λ j h t. subst T (m.3 j (omega (arith, start)) h (omega (arith, m.1))) t }))
    go None m = none (first_below p s.end) refl
      where
        none : (o : Option ℕ) → first_below p s.end ≡ o → None ≡ first_below p s.end
        none None e = sym e
        none (Some j) e = let w = first_below_some p s.end j e in absurd (subst T (m j (omega (arith, start)) w.within w.within) w.such)

-- the numbers below n as the library lists them
below_range : (n : ℕ) → below n ≡ range_with_len 0 n
unfolding below
below_range zero = refl
below_range (suc n) =
    ap (λ (l : List ℕ). l ++ (n ∷ [])) (below_range n ∙ sym (map-id (range_with_len 0 n))) ∙
    sym (map-range_with_len_more (λ x. x) 0 n n (omega arith)) ∙
    map-id (range_with_len 0 (n + 1)) ∙
    ap (range_with_len 0) (add-one n)

-- the library's word for some member
any_is : (p : ℕ → Bool) (xs : List ℕ) → list_any p xs ≡ any p xs
unfolding any
any_is p [] = refl
any_is p (x ∷ xs) = ap (λ (b : Bool). p x || b) (any_is p xs)

-- `any` over the numbers below n
pub found_some :
    {F : Type 0} {g : Mut F (ℕ × Unit {0}) Bool} (p : ℕ → Bool) (s u : Range ℕ) (f : F) (r : Bool) →
    (xs : List ℕ) × (o : Option ℕ) × (j : F) × YieldsThen nat_range_steps s xs o u × FoldsTo (λ p x q. Called g p (x, tt) false q) f xs j × MatchOption o (r ≡ false) (λ x. (r ≡ true) × ((h : F) × Called g j (x, tt) true h)) →
    s.start ≡ 0 →
    ((x : ℕ) (b : Bool) (q : F) → Called g f (x, tt) b q → (q ≡ f) × (b ≡ p x)) →
    r ≡ some_below p s.end
found_some p s u f r ran start call =
    any_from_yields_List p u f r ran (YieldsList-from_range 0 s.end s.end (λ i. record { start = start i; end = s.end }) (omega arith)) call ∙
    any_is p (range_with_len 0 s.end) ∙ ap (any p) (sym (below_range s.end))

-- `==` of two byte strings
pub equal_lists : (a b : List ℕ) → pointwise nat_eq a b ≡ same a b
unfolding same
equal_lists [] [] = refl
equal_lists [] (y ∷ ys) = refl
equal_lists (x ∷ xs) [] = refl
equal_lists (x ∷ xs) (y ∷ ys) = ap (λ (b : Bool). eqb x y && b) (equal_lists xs ys)

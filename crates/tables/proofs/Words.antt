-- Laws of the words of specs/Words.antt: each test says what it tests. Every layer cites them.
use Rattle.std.proofs.Common.{Option, Some, None}
use Rattle.std.proofs.lemmas.Option.{none-some}
use mathlib.Core.Bool.{Bool, true, false, cond, not, ◌&&◌, ◌||◌}
use mathlib.Core.List.Memᴰ
use mathlib.Core.List.{List, [], ◌∷◌, ◌++◌, map, flat_map, append_assoc, append-nil, Memᴰ}
use mathlib.Core.Logic.{◌↔◌, ◌⊎◌, inl, inr, ⊎_elim}
use mathlib.Core.Path.{◌≡◌, refl, sym, ap, ap₂, subst, ◌∙◌}
use Prim.Native.Nat.{ℕ, zero, suc, ◌+◌, ◌≤◌, ◌<◌}
use native.Mathlib.Nat.{not-suc-le-zero}
use native.Mathlib.Numerals.{add-one}
use native.Mathlib.Omega.{arith}
use lib.Dec.{T, eqb, ltb, eqb→eq, eqb_refl, ltb→lt, lt→ltb, not_T}
use lib.ListN.{length, get_or, length-append}
use Rattle.tables.specs.Words.{below, any, every, keep, among, same, first_below, First, first_of, Pair, pair, same_pair, pairs_below}
use Rattle.tables.specs.Tests.{some_below}

-- ---- tests

pub and_left : (a b : Bool) → T (a && b) → T a
and_left true b h = tt
and_left false b h = h

pub and_right : (a b : Bool) → T (a && b) → T b
and_right true b h = h
and_right false b h = absurd h

pub and_both : (a b : Bool) → T a → T b → T (a && b)
and_both true b h k = k
and_both false b h k = h

pub or_cases : (a b : Bool) → T (a || b) → T a ⊎ T b
or_cases true b h = inl tt
or_cases false b h = inr h

pub or_left : (a b : Bool) → T a → T (a || b)
or_left true b h = tt
or_left false b h = absurd h

pub or_right : (a b : Bool) → T b → T (a || b)
or_right true b h = tt
or_right false b h = h

or-false : (a : Bool) → (a || false) ≡ a
or-false true = refl
or-false false = refl

or_assoc : (a b c : Bool) → (a || b || c) ≡ (a || (b || c))
or_assoc true b c = refl
or_assoc false b c = refl

-- a test passes or fails
pub decide : (b : Bool) → T b ⊎ T (not b)
decide true = inl tt
decide false = inr tt

pub passed : (b : Bool) → T b → b ≡ true
passed true h = refl
passed false h = absurd h

pub failed : (b : Bool) → T (not b) → b ≡ false
failed true h = absurd h
failed false h = refl

pub passes : (b : Bool) → b ≡ true → T b
passes b e = subst T (sym e) tt

pub fails : (b : Bool) → b ≡ false → T (not b)
fails b e = subst (λ (x : Bool). T (not x)) (sym e) tt

-- two tests of which each passes where the other does are one
pub same_test : (a b : Bool) → (T a → T b) → (T b → T a) → a ≡ b
same_test true true f g = refl
same_test true false f g = absurd (f tt)
same_test false true f g = absurd (g tt)
same_test false false f g = refl

-- by cases on a test, with what it says
pub by_test {ℓ} : {C : Type ℓ} → (b : Bool) → (b ≡ true → C) → (b ≡ false → C) → C
by_test true f g = f refl
by_test false f g = g refl

-- ---- lists

module _ {ℓ} {A : Type ℓ} where
  pub any_some : (p : A → Bool) (xs : List A) → T (any p xs) → (x : A) × Memᴰ x xs × T (p x)
  unfolding any
  any_some p [] h = absurd h
  any_some p (x ∷ xs) h = go (or_cases (p x) (any p xs) h) (λ k. any_some p xs k)
    where
      go : T (p x) ⊎ T (any p xs) → (T (any p xs) → (y : A) × Memᴰ y xs × T (p y)) → (y : A) × Memᴰ y (x ∷ xs) × T (p y)
      go (inl k) f = (x, Memᴰ.head refl, k)
      go (inr k) f = let r = f k in (r.0, Memᴰ.tail r.1, r.2)

  pub some_any : (p : A → Bool) {x : A} {xs : List A} → Memᴰ x xs → T (p x) → T (any p xs)
  unfolding any
  some_any p (Memᴰ.head {x = y} {xs = ys} e) h = or_left (p y) (any p ys) (subst (λ z. T (p z)) e h)
  some_any p (Memᴰ.tail {x = y} {xs = ys} m) h = or_right (p y) (any p ys) (some_any p m h)

  pub every_all : (p : A → Bool) {x : A} {xs : List A} → T (every p xs) → Memᴰ x xs → T (p x)
  unfolding every
  every_all p h (Memᴰ.head {x = y} {xs = ys} e) = subst (λ z. T (p z)) (sym e) (and_left (p y) (every p ys) h)
  every_all p h (Memᴰ.tail {x = y} {xs = ys} m) = every_all p (and_right (p y) (every p ys) h) m

  pub all_every : (p : A → Bool) (xs : List A) → ((x : A) → Memᴰ x xs → T (p x)) → T (every p xs)
  unfolding every
  all_every p [] f = tt
  all_every p (x ∷ xs) f = and_both (p x) (every p xs) (f x (Memᴰ.head refl)) (all_every p xs (λ y m. f y (Memᴰ.tail m)))

  pub keep_mem : (p : A → Bool) {x : A} (xs : List A) → Memᴰ x (keep p xs) → Memᴰ x xs × T (p x)
  unfolding keep
  keep_mem p [] m = absurd (Memᴰ.not-nil m)
  keep_mem p {x} (y ∷ ys) m = go (p y) refl m (λ m'. keep_mem p ys m')
    where
      go : (b : Bool) → p y ≡ b → Memᴰ x (cond b (y ∷ keep p ys) (keep p ys)) → (Memᴰ x (keep p ys) → Memᴰ x ys × T (p x)) → Memᴰ x (y ∷ ys) × T (p x)
      go true e m' f = ⊎_elim (λ e'. (Memᴰ.head e', subst (λ z. T (p z)) (sym e') (passes (p y) e))) (λ k. (Memᴰ.tail (f k).0, (f k).1)) (Memᴰ.cases_cons m')
      go false e m' f = (Memᴰ.tail (f m').0, (f m').1)

  pub mem_keep : (p : A → Bool) {x : A} {xs : List A} → Memᴰ x xs → T (p x) → Memᴰ x (keep p xs)
  unfolding keep
  mem_keep p {x} (Memᴰ.head {x = y} {xs = ys} e) h = go (p y) (subst (λ z. T (p z)) e h)
    where
      go : (b : Bool) → T b → Memᴰ x (cond b (y ∷ keep p ys) (keep p ys))
      go true k = Memᴰ.head e
      go false k = absurd k
  mem_keep p {x} (Memᴰ.tail {x = y} {xs = ys} m) h = go (p y) (mem_keep p m h)
    where
      go : (b : Bool) → Memᴰ x (keep p ys) → Memᴰ x (cond b (y ∷ keep p ys) (keep p ys))
      go true k = Memᴰ.tail k
      go false k = k

  pub flat_map_mem {κ} : {B : Type κ} (f : A → List B) {y : B} (xs : List A) → Memᴰ y (flat_map f xs) → (x : A) × Memᴰ x xs × Memᴰ y (f x)
  unfolding flat_map
  flat_map_mem f [] m = absurd (Memᴰ.not-nil m)
  flat_map_mem {B = B} f {y} (x ∷ xs) m = go (Memᴰ.append_cases (f x) m) (λ k. flat_map_mem f xs k)
    where
      go : Memᴰ y (f x) ⊎ Memᴰ y (flat_map f xs) → (Memᴰ y (flat_map f xs) → (z : A) × Memᴰ z xs × Memᴰ y (f z)) → (z : A) × Memᴰ z (x ∷ xs) × Memᴰ y (f z)
      go (inl k) g = (x, Memᴰ.head refl, k)
      go (inr k) g = let r = g k in (r.0, Memᴰ.tail r.1, r.2)

  pub mem_flat_map {κ} : {B : Type κ} (f : A → List B) {x : A} {y : B} {xs : List A} → Memᴰ x xs → Memᴰ y (f x) → Memᴰ y (flat_map f xs)
  unfolding flat_map
  mem_flat_map f {y = y} (Memᴰ.head {x = z} {xs = zs} e) m = Memᴰ.append_left (flat_map f zs) (subst (λ w. Memᴰ y (f w)) e m)
  mem_flat_map f (Memᴰ.tail {x = z} {xs = zs} k) m = Memᴰ.append_right (f z) (mem_flat_map f k m)

  pub get_d_mem : (xs : List A) (i : ℕ) (d : A) → i < length xs → Memᴰ (get_or xs i d) xs
  get_d_mem [] i d h = absurd (not-suc-le-zero h)
  get_d_mem (x ∷ xs) zero d h = Memᴰ.head refl
  get_d_mem (x ∷ xs) (suc i) d h = Memᴰ.tail (get_d_mem xs i d (omega arith))

  pub mem_get_d : (d : A) {x : A} {xs : List A} → Memᴰ x xs → (i : ℕ) × (i < length xs) × (get_or xs i d ≡ x)
  mem_get_d d (Memᴰ.head e) = (zero, omega arith, sym e)
  mem_get_d d (Memᴰ.tail m) = let r = mem_get_d d m in (suc r.0, omega (arith, r.1), r.2)

module _ {A : Type 0} where
  pub first_of_some : (p : A → Bool) (xs : List A) (x : A) → first_of p xs ≡ Some x → Memᴰ x xs × T (p x)
  unfolding first_of
  first_of_some p [] x e = absurd (none-some x e)
  first_of_some p (y ∷ ys) x e = go (p y) refl e (λ k. first_of_some p ys x k)
    where
      go : (b : Bool) → p y ≡ b → cond b (Some y) (first_of p ys) ≡ Some x → (first_of p ys ≡ Some x → Memᴰ x ys × T (p x)) → Memᴰ x (y ∷ ys) × T (p x)
      go true q k f = let w : x ≡ y = cc in (Memᴰ.head w, subst (λ z. T (p z)) (sym w) (passes (p y) q))
      go false q k f = (Memᴰ.tail (f k).0, (f k).1)

  pub first_of_none : (p : A → Bool) {x : A} {xs : List A} → first_of p xs ≡ None → Memᴰ x xs → T (p x) → ⊥
  unfolding first_of
  first_of_none p {x} e (Memᴰ.head {x = y} {xs = ys} q) h = go (p y) (subst (λ z. T (p z)) q h) e
    where
      go : (b : Bool) → T b → cond b (Some y) (first_of p ys) ≡ None → ⊥
      go true k w = let z : ◌≡◌ {A = ℕ} 0 1 = cc in omega arith
      go false k w = k
  first_of_none p {x} e (Memᴰ.tail {x = y} {xs = ys} m) h = go (p y) e (λ k. first_of_none p k m h)
    where
      go : (b : Bool) → cond b (Some y) (first_of p ys) ≡ None → (first_of p ys ≡ None → ⊥) → ⊥
      go true w f = let z : ◌≡◌ {A = ℕ} 0 1 = cc in omega arith
      go false w f = f w

  -- what stands behind is looked at where nothing passes before
  pub first_of_behind : (p : A → Bool) (xs ys : List A) (x : A) → first_of p xs ≡ Some x → first_of p (xs ++ ys) ≡ Some x
  unfolding first_of
  first_of_behind p [] ys x e = absurd (none-some x e)
  first_of_behind p (y ∷ xs) ys x e = go (p y) e (λ k. first_of_behind p xs ys x k)
    where
      go : (b : Bool) → cond b (Some y) (first_of p xs) ≡ Some x → (first_of p xs ≡ Some x → first_of p (xs ++ ys) ≡ Some x) → cond b (Some y) (first_of p (xs ++ ys)) ≡ Some x
      go true q f = q
      go false q f = f q

  pub first_of_past : (p : A → Bool) (xs ys : List A) → first_of p xs ≡ None → first_of p (xs ++ ys) ≡ first_of p ys
  unfolding first_of
  first_of_past p [] ys e = refl
  first_of_past p (y ∷ xs) ys e = go (p y) e (λ k. first_of_past p xs ys k)
    where
      go : (b : Bool) → cond b (Some y) (first_of p xs) ≡ None → (first_of p xs ≡ None → first_of p (xs ++ ys) ≡ first_of p ys) → cond b (Some y) (first_of p (xs ++ ys)) ≡ first_of p ys
      go true q f = let z : ◌≡◌ {A = ℕ} 0 1 = cc in absurd (omega arith)
      go false q f = f q

  -- tests that agree on the members of a list find alike
  pub first_of_agree : (p q : A → Bool) (xs : List A) → ((x : A) → Memᴰ x xs → p x ≡ q x) → first_of p xs ≡ first_of q xs
  unfolding first_of
  first_of_agree p q [] f = refl
  first_of_agree p q (x ∷ xs) f = ap₂ (λ (b : Bool) (o : Option A). cond b (Some x) o) (f x (Memᴰ.head refl)) (first_of_agree p q xs (λ y m. f y (Memᴰ.tail m)))

module _ {ℓ} {A : Type ℓ} where
  pub any_agree : (p q : A → Bool) (xs : List A) → ((x : A) → Memᴰ x xs → p x ≡ q x) → any p xs ≡ any q xs
  unfolding any
  any_agree p q [] f = refl
  any_agree p q (x ∷ xs) f = ap₂ (λ (a b : Bool). a || b) (f x (Memᴰ.head refl)) (any_agree p q xs (λ y m. f y (Memᴰ.tail m)))

  -- a member behind the others is tested last
  pub any_behind : (p : A → Bool) (xs : List A) (x : A) → any p (xs ++ (x ∷ [])) ≡ (any p xs || p x)
  unfolding any
  any_behind p [] x = or-false (p x)
  any_behind p (y ∷ xs) x = ap (λ (b : Bool). p y || b) (any_behind p xs x) ∙ sym (or_assoc (p y) (any p xs) (p x))

-- ---- numbers in lists

pub among_mem : (x : ℕ) (xs : List ℕ) → T (among x xs) → Memᴰ x xs
unfolding among
among_mem x xs h = let r = any_some (eqb x) xs h in subst (λ z. Memᴰ z xs) (sym (eqb→eq x r.0 r.2)) r.1

pub mem_among : {x : ℕ} {xs : List ℕ} → Memᴰ x xs → T (among x xs)
unfolding among
mem_among {x} m = some_any (eqb x) m (eqb_refl x)

pub same_eq : (xs ys : List ℕ) → T (same xs ys) → xs ≡ ys
unfolding same
same_eq [] [] h = refl
same_eq [] (y ∷ ys) h = absurd h
same_eq (x ∷ xs) [] h = absurd h
same_eq (x ∷ xs) (y ∷ ys) h = ap₂ (λ (a : ℕ) (as' : List ℕ). a ∷ as') (eqb→eq x y (and_left (eqb x y) (same xs ys) h)) (same_eq xs ys (and_right (eqb x y) (same xs ys) h))

pub same_self : (xs : List ℕ) → T (same xs xs)
unfolding same
same_self [] = tt
same_self (x ∷ xs) = and_both (eqb x x) (same xs xs) (eqb_refl x) (same_self xs)

pub length_below : (n : ℕ) → length (below n) ≡ n
unfolding below
length_below zero = refl
length_below (suc n) = length-append (below n) (n ∷ []) ∙ ap (λ (k : ℕ). k + 1) (length_below n) ∙ add-one n

pub below_mem : (n : ℕ) {k : ℕ} → Memᴰ k (below n) → k < n
unfolding below
below_mem zero m = absurd (Memᴰ.not-nil m)
below_mem (suc n) {k} m = go (Memᴰ.append_cases (below n) m) (λ h. below_mem n h)
  where
    go : Memᴰ k (below n) ⊎ Memᴰ k (n ∷ []) → (Memᴰ k (below n) → k < n) → k < suc n
    go (inl h) f = omega (arith, f h)
    go (inr h) f = omega (arith, Memᴰ.eq_of_singleton h)

-- k is below n, or is n, where it is below the next number
pub below_or_is : (k n : ℕ) → k < suc n → (k < n) ⊎ (k ≡ n)
below_or_is k n h = by_test (ltb k n) (λ e. inl (ltb→lt k n (passes (ltb k n) e))) (λ e. inr (omega (arith, not_below e)))
  where
    not_below : ltb k n ≡ false → n ≤ k
    not_below e = lib.Dec.nltb→le k n (fails (ltb k n) e)

pub mem_below : (n k : ℕ) → k < n → Memᴰ k (below n)
unfolding below
mem_below zero k h = absurd (not-suc-le-zero h)
mem_below (suc n) k h = go (below_or_is k n h) (λ l. mem_below n k l)
  where
    go : (k < n) ⊎ (k ≡ n) → (k < n → Memᴰ k (below n)) → Memᴰ k (below n ++ (n ∷ []))
    go (inl l) f = Memᴰ.append_left (n ∷ []) (f l)
    go (inr e) f = Memᴰ.append_right (below n) (Memᴰ.head e)

-- ---- some number, and the first number, below n

some_one : {a b : ℕ} → Some a ≡ Some b → a ≡ b
some_one e = cc

pub some_below_some : (p : ℕ → Bool) (n : ℕ) → T (some_below p n) → (k : ℕ) × (k < n) × T (p k)
some_below_some p n h = let r = any_some p (below n) h in (r.0, below_mem n r.1, r.2)

pub some_some_below : (p : ℕ → Bool) (n k : ℕ) → k < n → T (p k) → T (some_below p n)
some_some_below p n k h l = some_any p (mem_below n k h) l

-- of the numbers below the next, n is looked at last
pub some_below_more : (p : ℕ → Bool) (n : ℕ) → some_below p (suc n) ≡ (some_below p n || p n)
unfolding below any
some_below_more p n = any_behind p (below n) n

-- tests that agree below n pass for some number below n alike
pub some_below_agree : (p q : ℕ → Bool) (n : ℕ) → ((k : ℕ) → k < n → p k ≡ q k) → some_below p n ≡ some_below q n
some_below_agree p q n f = any_agree p q (below n) (λ k m. f k (below_mem n m))

-- and the first that passes is one
pub first_below_agree : (p q : ℕ → Bool) (n : ℕ) → ((k : ℕ) → k < n → p k ≡ q k) → first_below p n ≡ first_below q n
first_below_agree p q n f = first_of_agree p q (below n) (λ k m. f k (below_mem n m))

pub first_below_none : (p : ℕ → Bool) (n : ℕ) → first_below p n ≡ None → (k : ℕ) → k < n → T (p k) → ⊥
first_below_none p n e k h l = first_of_none p e (mem_below n k h) l

-- the number that is found passes, and none before it does
pub first_below_some : (p : ℕ → Bool) (n k : ℕ) → first_below p n ≡ Some k → First (λ j. T (p j)) n k
unfolding below first_of
first_below_some p zero k e = absurd (none-some k e)
first_below_some p (suc n) k e = go (first_below p n) refl (λ q. first_below_some p n k q)
  where
    go : (o : Option ℕ) → first_below p n ≡ o → (first_below p n ≡ Some k → First (λ j. T (p j)) n k) → First (λ j. T (p j)) (suc n) k
    go (Some j) q f =
        let y : j ≡ k = some_one (sym (first_of_behind p (below n) (n ∷ []) j q) ∙ e) in
        let r = f (q ∙ ap Some y) in
        record { within = omega (arith, r.within); such = r.such; none_before = r.none_before }
    go None q f =
        let r = first_of_some p (n ∷ []) k (sym (first_of_past p (below n) (n ∷ []) q) ∙ e) in
        let y : k ≡ n = Memᴰ.eq_of_singleton r.0 in
        record { within = omega (arith, y); such = r.1; none_before = λ j h. first_below_none p n q j (omega (arith, y)) }

-- two first numbers are one
pub first_one : (P : ℕ → Type 0) (n k j : ℕ) → First P n k → First P n j → k ≡ j
first_one P n k j x y =
    by_test (ltb k j)
    (λ e. absurd (y.none_before k (ltb→lt k j (passes (ltb k j) e)) x.such))
    (λ e. by_test (ltb j k) (λ d. absurd (x.none_before j (ltb→lt j k (passes (ltb j k) d)) y.such)) (λ d. omega (arith, lib.Dec.nltb→le k j (fails (ltb k j) e), lib.Dec.nltb→le j k (fails (ltb j k) d))))

-- a test finds the first number of which it says that it is such, and no other
pub first_is : (p : ℕ → Bool) (P : ℕ → Type 0) → ((j : ℕ) → T (p j) ↔ P j) → (n k : ℕ) → (first_below p n ≡ Some k) ↔ First P n k
first_is p P f n k = (λ e. such (first_below_some p n k e), λ x. go x (first_below p n) refl)
  where
    such : {j : ℕ} → First (λ i. T (p i)) n j → First P n j
    such {j} x = record { within = x.within; such = (f j).0 x.such; none_before = λ i h q. x.none_before i h ((f i).1 q) }

    go : First P n k → (o : Option ℕ) → first_below p n ≡ o → first_below p n ≡ Some k
    go x (Some j) e = e ∙ ap Some (first_one P n j k (such (first_below_some p n j e)) x)
    go x None e = absurd (first_below_none p n e k x.within ((f k).1 x.such))

-- where no number is the first such, none below n is such
pub no_first : (p : ℕ → Bool) (P : ℕ → Type 0) → ((j : ℕ) → T (p j) ↔ P j) → (n : ℕ) → ((k : ℕ) → First P n k → ⊥) → (k : ℕ) → k < n → P k → ⊥
no_first p P f n none_is k h q = go (first_below p n) refl
  where
    go : (o : Option ℕ) → first_below p n ≡ o → ⊥
    go (Some j) e = none_is j ((first_is p P f n j).0 e)
    go None e = first_below_none p n e k h ((f k).1 q)

-- ---- pairs

pub same_pair_eq : (p q : Pair) → T (same_pair p q) → p ≡ q
same_pair_eq p q h = λ i. record { left = eqb→eq p.left q.left (and_left (eqb p.left q.left) (eqb p.right q.right) h) i; right = eqb→eq p.right q.right (and_right (eqb p.left q.left) (eqb p.right q.right) h) i }

pub same_pair_self : (p : Pair) → T (same_pair p p)
same_pair_self p = and_both (eqb p.left p.left) (eqb p.right p.right) (eqb_refl p.left) (eqb_refl p.right)

pub pairs_below_mem : (n : ℕ) (p : Pair) → Memᴰ p (pairs_below n) → (p.left < p.right) × (p.right < n)
unfolding pairs_below
pairs_below_mem n p m =
    let r = flat_map_mem (λ s. map (pair s) (keep (ltb s) (below n))) (below n) m in
    let q = Memᴰ.of_map (pair r.0) (keep (ltb r.0) (below n)) r.2 in
    let k = keep_mem (ltb r.0) (below n) q.1 in
    let e : pair r.0 q.0 ≡ p = q.2 in
    subst (λ (w : Pair). (w.left < w.right) × (w.right < n)) e (ltb→lt r.0 q.0 k.1, below_mem n k.0)

pub mem_pairs_below : (n : ℕ) (p : Pair) → p.left < p.right → p.right < n → Memᴰ p (pairs_below n)
unfolding pairs_below
mem_pairs_below n p h k =
    mem_flat_map (λ s. map (pair s) (keep (ltb s) (below n))) (mem_below n p.left (omega arith)) (Memᴰ.map (pair p.left) (mem_keep (ltb p.left) (mem_below n p.right k) (lt→ltb p.left p.right h)))

-- a number is below another, or it is not
pub below_or_not : (k n : ℕ) → (k < n) ⊎ (n ≤ k)
below_or_not k n = by_test (ltb k n) (λ e. inl (ltb→lt k n (passes (ltb k n) e))) (λ e. inr (lib.Dec.nltb→le k n (fails (ltb k n) e)))

-- tests that agree along a map: every member passes the one where every image passes the other
pub every_map {ℓ κ} : {A : Type ℓ} {B : Type κ} (p : A → Bool) (q : B → Bool) (f : A → B) (xs : List A) → ((x : A) → Memᴰ x xs → p x ≡ q (f x)) → every p xs ≡ every q (map f xs)
unfolding every
every_map p q f [] h = refl
every_map p q f (x ∷ xs) h = ap₂ (λ (a b : Bool). a && b) (h x (Memᴰ.head refl)) (every_map p q f xs (λ y m. h y (Memᴰ.tail m)))

-- ---- words on a list, member by member

module _ {ℓ} {A : Type ℓ} (p : A → Bool) where
  -- no member of an empty list passes
  pub any_empty : any p [] ≡ false
  unfolding any
  any_empty = refl

  -- a member that fails is as if it were not there
  pub any_fails : (x : A) (xs : List A) → p x ≡ false → any p (x ∷ xs) ≡ any p xs
  unfolding any
  any_fails x xs e = ap (λ (b : Bool). b || any p xs) e

  pub keep_empty : keep p [] ≡ []
  unfolding keep
  keep_empty = refl

  pub keep_passes : (x : A) (xs : List A) → p x ≡ true → keep p (x ∷ xs) ≡ x ∷ keep p xs
  unfolding keep
  keep_passes x xs e = ap (λ (b : Bool). cond b (x ∷ keep p xs) (keep p xs)) e

  pub keep_fails : (x : A) (xs : List A) → p x ≡ false → keep p (x ∷ xs) ≡ keep p xs
  unfolding keep
  keep_fails x xs e = ap (λ (b : Bool). cond b (x ∷ keep p xs) (keep p xs)) e

  -- what is kept of two lists, one after the other
  pub keep_append : (xs ys : List A) → keep p (xs ++ ys) ≡ keep p xs ++ keep p ys
  keep_append [] ys = ap (λ (l : List A). l ++ keep p ys) (sym keep_empty)
  keep_append (x ∷ xs) ys =
      by_test (p x)
      (λ e. keep_passes x (xs ++ ys) e ∙ ap (λ (l : List A). x ∷ l) (keep_append xs ys) ∙ ap (λ (l : List A). l ++ keep p ys) (sym (keep_passes x xs e)))
      (λ e. keep_fails x (xs ++ ys) e ∙ keep_append xs ys ∙ ap (λ (l : List A). l ++ keep p ys) (sym (keep_fails x xs e)))

  -- where none passes none is kept
  pub keep_none : (xs : List A) → ((x : A) → Memᴰ x xs → p x ≡ false) → keep p xs ≡ []
  keep_none [] h = keep_empty
  keep_none (x ∷ xs) h = keep_fails x xs (h x (Memᴰ.head refl)) ∙ keep_none xs (λ y m. h y (Memᴰ.tail m))

module _ {A : Type 0} (p : A → Bool) where
  pub first_of_empty : first_of p [] ≡ None
  unfolding first_of
  first_of_empty = refl

  pub first_of_passes : (x : A) (xs : List A) → p x ≡ true → first_of p (x ∷ xs) ≡ Some x
  unfolding first_of
  first_of_passes x xs e = ap (λ (b : Bool). cond b (Some x) (first_of p xs)) e

  pub first_of_fails : (x : A) (xs : List A) → p x ≡ false → first_of p (x ∷ xs) ≡ first_of p xs
  unfolding first_of
  first_of_fails x xs e = ap (λ (b : Bool). cond b (Some x) (first_of p xs)) e

  -- nothing is found where no member passes
  pub none_first_of : (xs : List A) → ((x : A) → Memᴰ x xs → T (p x) → ⊥) → first_of p xs ≡ None
  none_first_of [] f = first_of_empty
  none_first_of (x ∷ xs) f =
      first_of_fails x xs (failed (p x) (not_T (p x) (f x (Memᴰ.head refl)))) ∙ none_first_of xs (λ y m. f y (Memᴰ.tail m))

  -- a member that passes behind members that fail is the first
  pub first_of_is : (xs : List A) (x : A) (ys : List A) → ((y : A) → Memᴰ y xs → T (p y) → ⊥) → T (p x) → first_of p (xs ++ (x ∷ ys)) ≡ Some x
  first_of_is [] x ys f h = first_of_passes x ys (passed (p x) h)
  first_of_is (z ∷ xs) x ys f h =
      first_of_fails z (xs ++ (x ∷ ys)) (failed (p z) (not_T (p z) (f z (Memᴰ.head refl)))) ∙ first_of_is xs x ys (λ y m. f y (Memᴰ.tail m)) h

module _ {ℓ} {A : Type ℓ} (p q : A → Bool) where
  -- tests that agree on the members keep the same
  pub keep_agree : (xs : List A) → ((x : A) → Memᴰ x xs → p x ≡ q x) → keep p xs ≡ keep q xs
  unfolding keep
  keep_agree [] h = refl
  keep_agree (x ∷ xs) h = ap₂ (λ (b : Bool) (l : List A). cond b (x ∷ l) l) (h x (Memᴰ.head refl)) (keep_agree xs (λ y m. h y (Memᴰ.tail m)))

module _ {ℓ κ} {A : Type ℓ} {B : Type κ} where
  -- one list after the other, of two lists
  pub flat_map_append : (f : A → List B) (xs ys : List A) → flat_map f (xs ++ ys) ≡ flat_map f xs ++ flat_map f ys
  unfolding flat_map
  flat_map_append f [] ys = refl
  flat_map_append f (x ∷ xs) ys = ap (λ (l : List B). f x ++ l) (flat_map_append f xs ys) ∙ sym (append_assoc (f x) (flat_map f xs) (flat_map f ys))

  -- one list after the other, by two functions that agree on the members
  pub flat_map_agree : (f g : A → List B) (xs : List A) → ((x : A) → Memᴰ x xs → f x ≡ g x) → flat_map f xs ≡ flat_map g xs
  unfolding flat_map
  flat_map_agree f g [] h = refl
  flat_map_agree f g (x ∷ xs) h = ap₂ (λ (a b : List B). a ++ b) (h x (Memᴰ.head refl)) (flat_map_agree f g xs (λ y m. h y (Memᴰ.tail m)))

-- ---- the numbers below n, one by one

pub below_none : below 0 ≡ []
unfolding below
below_none = refl

pub below_more : (n : ℕ) → below (n + 1) ≡ below n ++ (n ∷ [])
unfolding below
below_more n = ap below (add-one n)

-- those below s, s itself, and others
pub below_split : (n s : ℕ) → s < n → (rest : List ℕ) × (below n ≡ below s ++ (s ∷ rest))
unfolding below
below_split zero s h = absurd (not-suc-le-zero h)
below_split (suc n) s h = go (below_or_is s n h) (below_split n s)
  where
    go : (s < n) ⊎ (s ≡ n) → (s < n → (rest : List ℕ) × (below n ≡ below s ++ (s ∷ rest))) → (rest : List ℕ) × (below n ++ (n ∷ []) ≡ below s ++ (s ∷ rest))
    go (inl l) f = let r = f l in (r.0 ++ (n ∷ []), ap (λ (xs : List ℕ). xs ++ (n ∷ [])) r.1 ∙ append_assoc (below s) (s ∷ r.0) (n ∷ []))
    go (inr e) f = ([], ap (λ (k : ℕ). below k ++ (k ∷ [])) (sym e))

module _ {ℓ} {B : Type ℓ} (f : ℕ → List B) where
  -- a list for each number, of no number
  pub flat_map_below_none : flat_map f (below 0) ≡ []
  unfolding flat_map
  flat_map_below_none = ap (flat_map f) below_none

  -- and of one number more
  pub flat_map_below_more : (n : ℕ) → flat_map f (below (n + 1)) ≡ flat_map f (below n) ++ f n
  unfolding flat_map
  flat_map_below_more n = ap (flat_map f) (below_more n) ∙ flat_map_append f (below n) (n ∷ []) ∙ ap (λ (l : List B). flat_map f (below n) ++ l) (append-nil (f n))

-- the pairs below n row by row: those of s, for each s
pub pairs_below_rows : (n : ℕ) → pairs_below n ≡ flat_map (λ s. map (pair s) (keep (ltb s) (below n))) (below n)
unfolding pairs_below
pairs_below_rows n = refl

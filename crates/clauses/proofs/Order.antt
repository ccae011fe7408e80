-- Laws of the order in which pairs and clauses stand, and of what that order keeps: members, truth, shared symbols.
use mathlib.Core.Bool.{Bool, true, false, cond}
use mathlib.Core.List.Memᴰ
use mathlib.Core.List.{List, [], ◌∷◌, ◌++◌, map, flat_map, Memᴰ}
use mathlib.Core.Logic.{◌⊎◌, inl, inr, ⊎_elim, ◌↔◌}
use mathlib.Core.Path.{◌≡◌, refl, sym, ap, ap₂, subst, ◌∙◌}
use Prim.Native.Nat.{ℕ, zero, suc, ◌≤◌, ◌<◌}
use native.Mathlib.Omega.{arith}
use lib.Dec.{T, ltb, ltb→lt, nltb→le}
use Rattle.tables.specs.Words.{below, keep, Pair, pair, same_pair, pairs_below}
use Rattle.tables.specs.Terms.{Term}
use Rattle.tables.specs.declared.Literal.{Literal}
use Rattle.tables.specs.Interpretations.{Interpretation, value}
use Rattle.tables.proofs.Words.{any_some, some_any, keep_mem, mem_keep, flat_map_mem, mem_flat_map, below_mem, same_pair_eq, same_pair_self, pairs_below_mem, mem_pairs_below, by_test, passes, fails}
use Rattle.clauses.specs.Clauses.{between, Clause, Conclusion, equals, differs, falsum}
use Rattle.clauses.specs.Records.{among_pairs, ascending, concludes, concluding, is_last, first_alone, clause_in_order, standing}
use Rattle.clauses.specs.Truth.{TrueEquality, TrueClause, TrueClauses, SharedClause}

-- ---- lists in order

-- each member comes before all that follow it
abbrev pub Ordered : {A : Type 0} → (A → A → Type 0) → List A → Type 0
Ordered R [] = Unit {0}
Ordered {A} R (x ∷ xs) = ((y : A) → Memᴰ y xs → R x y) × Ordered R xs

module _ {A : Type 0} (R : A → A → Type 0) where
  -- two lists in order, the first all before the second, are in order one behind the other
  pub ordered_append : (xs ys : List A) → Ordered R xs → Ordered R ys → ((x y : A) → Memᴰ x xs → Memᴰ y ys → R x y) → Ordered R (xs ++ ys)
  ordered_append [] ys o q f = q
  ordered_append (x ∷ xs) ys o q f = (λ y m. ⊎_elim (o.0 y) (f x y (Memᴰ.head refl)) (Memᴰ.append_cases xs m), ordered_append xs ys o.1 q (λ z y m. f z y (Memᴰ.tail m)))

  -- what is kept of a list in order is in order
  pub ordered_keep : (p : A → Bool) (xs : List A) → Ordered R xs → Ordered R (keep p xs)
  unfolding keep
  ordered_keep p [] o = tt
  ordered_keep p (x ∷ xs) o = go (p x) (ordered_keep p xs o.1)
    where
      go : (b : Bool) → Ordered R (keep p xs) → Ordered R (cond b (x ∷ keep p xs) (keep p xs))
      go true q = (λ y m. o.0 y (keep_mem p xs m).0, q)
      go false q = q

  -- of two members of a list in order one comes before the other, or they are one
  pub ordered_two : (xs : List A) (x y : A) → Ordered R xs → Memᴰ x xs → Memᴰ y xs → (x ≡ y) ⊎ (R x y ⊎ R y x)
  ordered_two [] x y o m k = absurd (Memᴰ.not-nil m)
  ordered_two (z ∷ zs) x y o m k = go (Memᴰ.cases_cons m) (Memᴰ.cases_cons k) (λ m' k'. ordered_two zs x y o.1 m' k')
    where
      go : (x ≡ z) ⊎ Memᴰ x zs → (y ≡ z) ⊎ Memᴰ y zs → (Memᴰ x zs → Memᴰ y zs → (x ≡ y) ⊎ (R x y ⊎ R y x)) → (x ≡ y) ⊎ (R x y ⊎ R y x)
      go (inl e) (inl d) f = inl (e ∙ sym d)
      go (inl e) (inr k') f = inr (inl (subst (λ (w : A). R w y) (sym e) (o.0 y k')))
      go (inr m') (inl d) f = inr (inr (subst (λ (w : A). R w x) (sym d) (o.0 x m')))
      go (inr m') (inr k') f = f m' k'

  -- two members of which neither comes before the other are one
  pub ordered_one : (xs : List A) (x y : A) → Ordered R xs → Memᴰ x xs → Memᴰ y xs → (R x y → ⊥) → (R y x → ⊥) → x ≡ y
  ordered_one xs x y o m k f g = ⊎_elim (λ e. e) (⊎_elim (λ r. absurd (f r)) (λ r. absurd (g r))) (ordered_two xs x y o m k)

  -- the end of a list in order is in order
  pub ordered_end : (xs ys : List A) → Ordered R (xs ++ ys) → Ordered R ys
  ordered_end [] ys o = o
  ordered_end (x ∷ xs) ys o = ordered_end xs ys o.1

  -- in an order in which no two come before one another, a list is determined by its members
  pub ordered_unique : ((x y : A) → R x y → R y x → ⊥) → (xs ys : List A) → Ordered R xs → Ordered R ys → ((z : A) → Memᴰ z xs → Memᴰ z ys) → ((z : A) → Memᴰ z ys → Memᴰ z xs) → xs ≡ ys
  ordered_unique asym [] [] o q f g = refl
  ordered_unique asym [] (y ∷ ys) o q f g = absurd (Memᴰ.not-nil (g y (Memᴰ.head refl)))
  ordered_unique asym (x ∷ xs) [] o q f g = absurd (Memᴰ.not-nil (f x (Memᴰ.head refl)))
  ordered_unique asym (x ∷ xs) (y ∷ ys) o q f g = ap₂ (λ (z : A) (zs : List A). z ∷ zs) first (ordered_unique asym xs ys o.1 q.1 (λ z m. behind x y xs ys first o.0 z m (f z (Memᴰ.tail m))) (λ z m. behind y x ys xs (sym first) q.0 z m (g z (Memᴰ.tail m))))
    where
      first : x ≡ y
      first = ⊎_elim (λ e. e) (λ m. ⊎_elim sym (λ k. absurd (asym x y (o.0 y k) (q.0 x m))) (Memᴰ.cases_cons (g y (Memᴰ.head refl)))) (Memᴰ.cases_cons (f x (Memᴰ.head refl)))

      behind : (u v : A) (us vs : List A) → u ≡ v → ((z : A) → Memᴰ z us → R u z) → (z : A) → Memᴰ z us → Memᴰ z (v ∷ vs) → Memᴰ z vs
      behind u v us vs e b z m k = ⊎_elim (λ d. absurd (let r : R z z = subst (λ (w : A). R w z) (e ∙ sym d) (b z m) in asym z z r r)) (λ h. h) (Memᴰ.cases_cons k)

module _ {A B : Type 0} (R : A → A → Type 0) (S : B → B → Type 0) where
  -- lists in order, one for each member of a list in order, are in order one behind the other
  pub ordered_flat_map : (f : A → List B) (xs : List A) → Ordered R xs → ((x : A) → Ordered S (f x)) → ((x y : A) → R x y → (s t : B) → Memᴰ s (f x) → Memᴰ t (f y) → S s t) → Ordered S (flat_map f xs)
  unfolding flat_map
  ordered_flat_map f [] o q g = tt
  ordered_flat_map f (x ∷ xs) o q g =
      ordered_append S (f x) (flat_map f xs) (q x) (ordered_flat_map f xs o.1 q g)
      (λ s t m k. let r = flat_map_mem f xs k in g x r.0 (o.0 r.0 r.1) s t m r.2)

  -- a function that keeps the order keeps a list in order
  pub ordered_map : (f : A → B) (xs : List A) → Ordered R xs → ((x y : A) → R x y → S (f x) (f y)) → Ordered S (map f xs)
  ordered_map f [] o g = tt
  ordered_map f (x ∷ xs) o g =
      (λ y m. let r = Memᴰ.of_map f xs m in subst (S (f x)) r.2 (g x r.0 (o.0 r.0 r.1)), ordered_map f xs o.1 g)

-- the numbers below n stand in ascending order
pub below_ordered : (n : ℕ) → Ordered ◌<◌ (below n)
unfolding below
below_ordered zero = tt
below_ordered (suc n) =
    ordered_append ◌<◌ (below n) (n ∷ []) (below_ordered n) (λ y m. absurd (Memᴰ.not-nil m), tt)
    (λ x y m k. subst (λ (z : ℕ). x < z) (sym (Memᴰ.eq_of_singleton k)) (below_mem n m))

-- ---- pairs in order

-- one pair is before the other, by left and then right
abbrev pub Before : Pair → Pair → Type 0
Before p q = (p.left < q.left) ⊎ ((p.left ≡ q.left) × (p.right < q.right))

-- "each once, ascending by left and then right"
abbrev pub Rising : List Pair → Type 0
Rising ps = Ordered Before ps

-- no pair is before itself
pub before_irreflexive : (p : Pair) → Before p p → ⊥
before_irreflexive p (inl h) = omega arith
before_irreflexive p (inr h) = omega arith

-- of two pairs at most one is before the other
pub before_asymmetric : (p q : Pair) → Before p q → Before q p → ⊥
before_asymmetric p q (inl h) (inl k) = omega arith
before_asymmetric p q (inl h) (inr k) = omega arith
before_asymmetric p q (inr h) (inl k) = omega arith
before_asymmetric p q (inr h) (inr k) = omega arith

-- before is transitive
pub before_trans : (p q r : Pair) → Before p q → Before q r → Before p r
before_trans p q r (inl h) (inl k) = inl (omega arith)
before_trans p q r (inl h) (inr k) = inl (omega arith)
before_trans p q r (inr h) (inl k) = inl (omega arith)
before_trans p q r (inr h) (inr k) = inr (h.0 ∙ k.0, omega arith)

-- the pairs of numbers below n rise
pub pairs_below_rising : (n : ℕ) → Rising (pairs_below n)
unfolding pairs_below
pairs_below_rising n =
    ordered_flat_map ◌<◌ Before (λ s. map (pair s) (keep (ltb s) (below n))) (below n) (below_ordered n)
    (λ s. ordered_map ◌<◌ Before (pair s) (keep (ltb s) (below n)) (ordered_keep ◌<◌ (ltb s) (below n) (below_ordered n)) (λ x y h. inr (refl, h)))
    (λ s t h p q m k. let a = Memᴰ.of_map (pair s) (keep (ltb s) (below n)) m in let b = Memᴰ.of_map (pair t) (keep (ltb t) (below n)) k in inl (subst (λ (w : Pair). p.left < w.left) b.2 (subst (λ (w : Pair). w.left < t) a.2 h)))

-- the pairs of a list, put in order, rise
pub ascending_rising : (n : ℕ) (ps : List Pair) → Rising (ascending n ps)
unfolding ascending
ascending_rising n ps = ordered_keep Before (among_pairs ps) (pairs_below n) (pairs_below_rising n)

-- a pair of term numbers below n, the lower one left
abbrev pub PairWithin : ℕ → Pair → Type 0
PairWithin n p = (p.left < p.right) × (p.right < n)

-- what stands in order stood in the list, and is within the numbers below n
pub ascending_mem : (n : ℕ) (ps : List Pair) (p : Pair) → Memᴰ p (ascending n ps) → Memᴰ p ps × PairWithin n p
unfolding ascending among_pairs
ascending_mem n ps p m =
    let k = keep_mem (among_pairs ps) (pairs_below n) m in
    let r = any_some (same_pair p) ps k.1 in
    (subst (λ (q : Pair). Memᴰ q ps) (sym (same_pair_eq p r.0 r.2)) r.1, pairs_below_mem n p k.0)

-- what stands in the list, within the numbers below n, stands in order
pub mem_ascending : (n : ℕ) (ps : List Pair) (p : Pair) → Memᴰ p ps → PairWithin n p → Memᴰ p (ascending n ps)
unfolding ascending among_pairs
mem_ascending n ps p m h = mem_keep (among_pairs ps) (mem_pairs_below n p h.0 h.1) (some_any (same_pair p) m (same_pair_self p))

-- exactly these stand in order
pub ascending_iff : (n : ℕ) (ps : List Pair) (p : Pair) → Memᴰ p (ascending n ps) ↔ (Memᴰ p ps × PairWithin n p)
ascending_iff n ps p = (ascending_mem n ps p, λ h. mem_ascending n ps p h.0 h.1)

-- in a list that rises no pair stands twice
pub rising_once : (front rest : List Pair) (p : Pair) → Rising (front ++ (p ∷ rest)) → Memᴰ p rest → ⊥
rising_once front rest p o m = before_irreflexive p ((ordered_end Before front (p ∷ rest) o).0 p m)

-- the order of a list, and how often a pair stands in it, change nothing: its pairs in order are determined by its members
pub ascending_agree : (n : ℕ) (ps qs : List Pair) → ((p : Pair) → Memᴰ p ps ↔ Memᴰ p qs) → ascending n ps ≡ ascending n qs
ascending_agree n ps qs f =
    ordered_unique Before before_asymmetric (ascending n ps) (ascending n qs) (ascending_rising n ps) (ascending_rising n qs)
    (λ p m. let h = ascending_mem n ps p m in mem_ascending n qs p ((f p).0 h.0) h.1)
    (λ p m. let h = ascending_mem n qs p m in mem_ascending n ps p ((f p).1 h.0) h.1)

-- ---- clauses in order

-- what concludes an equality has that conclusion
pub concludes_eq : (p : Pair) (k : Conclusion) → T (concludes p k) → k ≡ equals p
unfolding concludes
concludes_eq p (equals q) h = ap equals (sym (same_pair_eq p q h))
concludes_eq p (differs q) h = absurd h
concludes_eq p falsum h = absurd h

-- and what has that conclusion concludes it
pub eq_concludes : (p : Pair) (k : Conclusion) → k ≡ equals p → T (concludes p k)
unfolding concludes
eq_concludes p k e = subst (λ (j : Conclusion). T (concludes p j)) (sym e) (same_pair_self p)

-- the first of a list stands in it
pub first_alone_mem : (cs : List Clause) (c : Clause) → Memᴰ c (first_alone cs) → Memᴰ c cs
unfolding first_alone
first_alone_mem [] c m = m
first_alone_mem (d ∷ cs) c m = Memᴰ.head (Memᴰ.eq_of_singleton m)

-- a list with a member has a first one
pub first_alone_some : (cs : List Clause) (c : Clause) → Memᴰ c cs → (d : Clause) × Memᴰ d (first_alone cs)
unfolding first_alone
first_alone_some [] c m = absurd (Memᴰ.not-nil m)
first_alone_some (d ∷ cs) c m = (d, Memᴰ.head refl)

-- the first of a list alone is in any order
pub first_alone_ordered : (R : Clause → Clause → Type 0) (cs : List Clause) → Ordered R (first_alone cs)
unfolding first_alone
first_alone_ordered R [] = tt
first_alone_ordered R (c ∷ cs) = (λ y m. absurd (Memᴰ.not-nil m), tt)

-- the clauses of a test: the first that passes stands in the list and passes
pub first_kept_mem : (p : Clause → Bool) (cs : List Clause) (c : Clause) → Memᴰ c (first_alone (keep p cs)) → Memᴰ c cs × T (p c)
first_kept_mem p cs c m = keep_mem p cs (first_alone_mem (keep p cs) c m)

-- where a clause of the list passes, there is a first that does
pub first_kept_some : (p : Clause → Bool) (cs : List Clause) (c : Clause) → Memᴰ c cs → T (p c) → (d : Clause) × Memᴰ d (first_alone (keep p cs))
first_kept_some p cs c m h = first_alone_some (keep p cs) c (mem_keep p m h)

-- "ascending by conclusion; a clause of kind 3 or 4 is last": nothing comes after such a clause
abbrev pub ConcludesBefore : Conclusion → Conclusion → Type 0
ConcludesBefore (equals p) (equals q) = Before p q
ConcludesBefore (equals p) (differs q) = Unit {0}
ConcludesBefore (equals p) falsum = Unit {0}
ConcludesBefore (differs p) k = ⊥
ConcludesBefore falsum k = ⊥

-- the same of clauses
abbrev pub ClauseBefore : Clause → Clause → Type 0
ClauseBefore c d = ConcludesBefore c.conclusion d.conclusion

-- an equality comes before a clause of kind 3 or 4
pub equals_before_last : (p : Pair) (k : Conclusion) → T (is_last k) → ConcludesBefore (equals p) k
unfolding is_last
equals_before_last p (equals q) h = absurd h
equals_before_last p (differs q) h = tt
equals_before_last p falsum h = tt

-- of two conclusions at most one comes before the other
pub concludes_before_asymmetric : (k j : Conclusion) → ConcludesBefore k j → ConcludesBefore j k → ⊥
concludes_before_asymmetric (equals p) (equals q) h l = before_asymmetric p q h l
concludes_before_asymmetric (equals p) (differs q) h l = l
concludes_before_asymmetric (equals p) falsum h l = l
concludes_before_asymmetric (differs p) j h l = h
concludes_before_asymmetric falsum j h l = h

-- no conclusion comes before itself
pub concludes_before_irreflexive : (k : Conclusion) → ConcludesBefore k k → ⊥
concludes_before_irreflexive k h = concludes_before_asymmetric k k h h

-- a clause of kind 3 or 4 comes before nothing
pub last_before_nothing : (k j : Conclusion) → T (is_last k) → ConcludesBefore k j → ⊥
unfolding is_last
last_before_nothing (equals p) j h b = h
last_before_nothing (differs p) j h b = b
last_before_nothing falsum j h b = b

-- the first clause of the list with this conclusion
abbrev concluding_first : List Clause → Pair → List Clause
concluding_first cs p = first_alone (keep (concluding p) cs)

-- the first clause of the list of kind 3 or 4
abbrev last_first : List Clause → List Clause
last_first cs = first_alone (keep (λ c. is_last c.conclusion) cs)

-- a clause that stands for a pair concludes it
concluding_first_conclusion : (cs : List Clause) (p : Pair) (c : Clause) → Memᴰ c (concluding_first cs p) → c.conclusion ≡ equals p
concluding_first_conclusion cs p c m = concludes_eq p c.conclusion (first_kept_mem (concluding p) cs c m).1

module _ (n : ℕ) (cs : List Clause) where
  -- the clauses that stand, before their premises are put in order, come ascending by conclusion
  chosen_ordered : Ordered ClauseBefore (flat_map (concluding_first cs) (pairs_below n) ++ last_first cs)
  chosen_ordered =
      ordered_append ClauseBefore (flat_map (concluding_first cs) (pairs_below n)) (last_first cs)
      (ordered_flat_map Before ClauseBefore (concluding_first cs) (pairs_below n) (pairs_below_rising n) (λ p. first_alone_ordered ClauseBefore (keep (concluding p) cs))
      (λ p q b c d m k. subst (λ (j : Conclusion). ConcludesBefore j d.conclusion) (sym (concluding_first_conclusion cs p c m)) (subst (ConcludesBefore (equals p)) (sym (concluding_first_conclusion cs q d k)) b)))
      (first_alone_ordered ClauseBefore (keep (λ c. is_last c.conclusion) cs))
      (λ c d m k. let r = flat_map_mem (concluding_first cs) (pairs_below n) m in subst (λ (j : Conclusion). ConcludesBefore j d.conclusion) (sym (concluding_first_conclusion cs r.0 c r.2)) (equals_before_last r.0 d.conclusion (first_kept_mem (λ c. is_last c.conclusion) cs d k).1))

  -- "Clauses stand once each, ascending by conclusion; a clause of kind 3 or 4 is last."
  pub standing_ordered : Ordered ClauseBefore (standing n cs)
  unfolding standing
  standing_ordered = ordered_map ClauseBefore ClauseBefore (clause_in_order n) (flat_map (concluding_first cs) (pairs_below n) ++ last_first cs) chosen_ordered (λ c d b. b)

  -- a clause stands once: two that stand with one conclusion are one
  pub standing_once : (c d : Clause) → Memᴰ c (standing n cs) → Memᴰ d (standing n cs) → c.conclusion ≡ d.conclusion → c ≡ d
  standing_once c d m k e =
      ordered_one ClauseBefore (standing n cs) c d standing_ordered m k
      (λ b. concludes_before_irreflexive d.conclusion (subst (λ (j : Conclusion). ConcludesBefore j d.conclusion) e b))
      (λ b. concludes_before_irreflexive d.conclusion (subst (ConcludesBefore d.conclusion) e b))

  -- at most one clause of kind 3 or 4 stands
  pub standing_one_last : (c d : Clause) → Memᴰ c (standing n cs) → Memᴰ d (standing n cs) → T (is_last c.conclusion) → T (is_last d.conclusion) → c ≡ d
  standing_one_last c d m k h l =
      ordered_one ClauseBefore (standing n cs) c d standing_ordered m k (last_before_nothing c.conclusion d.conclusion h) (last_before_nothing d.conclusion c.conclusion l)

  -- nothing stands behind a clause of kind 3 or 4
  pub standing_last : (front rest : List Clause) (c : Clause) → standing n cs ≡ front ++ (c ∷ rest) → T (is_last c.conclusion) → rest ≡ []
  standing_last front rest c e h = go rest (ordered_end ClauseBefore front (c ∷ rest) (subst (Ordered ClauseBefore) e standing_ordered))
    where
      go : (ds : List Clause) → Ordered ClauseBefore (c ∷ ds) → ds ≡ []
      go [] o = refl
      go (d ∷ ds) o = absurd (last_before_nothing c.conclusion d.conclusion h (o.0 d (Memᴰ.head refl)))

  -- what stands is a clause of the list, its premises in order; if it concludes an equality, that is within the numbers below n
  pub standing_mem : (c : Clause) → Memᴰ c (standing n cs) → (d : Clause) × Memᴰ d cs × (c ≡ clause_in_order n d) × (T (is_last d.conclusion) ⊎ ((p : Pair) × PairWithin n p × (d.conclusion ≡ equals p)))
  unfolding standing
  standing_mem c m =
      let r = Memᴰ.of_map (clause_in_order n) (flat_map (concluding_first cs) (pairs_below n) ++ last_first cs) m in
      go r.0 (sym r.2) (Memᴰ.append_cases (flat_map (concluding_first cs) (pairs_below n)) r.1)
    where
      go : (d : Clause) → c ≡ clause_in_order n d → Memᴰ d (flat_map (concluding_first cs) (pairs_below n)) ⊎ Memᴰ d (last_first cs) → (d : Clause) × Memᴰ d cs × (c ≡ clause_in_order n d) × (T (is_last d.conclusion) ⊎ ((p : Pair) × PairWithin n p × (d.conclusion ≡ equals p)))
      go d e (inl k) = let q = flat_map_mem (concluding_first cs) (pairs_below n) k in (d, (first_kept_mem (concluding q.0) cs d q.2).0, e, inr (q.0, pairs_below_mem n q.0 q.1, concluding_first_conclusion cs q.0 d q.2))
      go d e (inr k) = let q = first_kept_mem (λ c. is_last c.conclusion) cs d k in (d, q.0, e, inl q.1)

  -- for a clause that concludes an equality within the numbers below n there stands one with that conclusion
  pub mem_standing : (c : Clause) (p : Pair) → Memᴰ c cs → c.conclusion ≡ equals p → PairWithin n p → (d : Clause) × Memᴰ d cs × (d.conclusion ≡ equals p) × Memᴰ (clause_in_order n d) (standing n cs)
  unfolding standing
  mem_standing c p m e h =
      let r = first_kept_some (concluding p) cs c m (eq_concludes p c.conclusion e) in
      (r.0, (first_kept_mem (concluding p) cs r.0 r.1).0, concluding_first_conclusion cs p r.0 r.1, Memᴰ.map (clause_in_order n) (Memᴰ.append_left (last_first cs) (mem_flat_map (concluding_first cs) (mem_pairs_below n p h.0 h.1) r.1)))

  -- where the list has a clause of kind 3 or 4, such a clause stands
  pub last_standing : (c : Clause) → Memᴰ c cs → T (is_last c.conclusion) → (d : Clause) × Memᴰ d cs × T (is_last d.conclusion) × Memᴰ (clause_in_order n d) (standing n cs)
  unfolding standing
  last_standing c m h =
      let r = first_kept_some (λ c. is_last c.conclusion) cs c m h in
      let q = first_kept_mem (λ c. is_last c.conclusion) cs r.0 r.1 in
      (r.0, q.0, q.1, Memᴰ.map (clause_in_order n) (Memᴰ.append_right (flat_map (concluding_first cs) (pairs_below n)) r.1))

-- ---- what the order keeps

-- the terms of a conclusion are numbers below n, the lower one left
abbrev pub ConclusionWithin : ℕ → Conclusion → Type 0
ConclusionWithin n (equals p) = PairWithin n p
ConclusionWithin n (differs p) = PairWithin n p
ConclusionWithin n falsum = Unit {0}

-- the terms of a clause are numbers below n, the lower one left
pub record ClauseWithin (n : ℕ) (c : Clause) : Type 0 where
  pub premises_within : (p : Pair) → Memᴰ p c.premises → PairWithin n p
  pub conclusion_within : ConclusionWithin n c.conclusion

-- so are those of all clauses
abbrev pub ClausesWithin : ℕ → List Clause → Type 0
ClausesWithin n cs = (c : Clause) → Memᴰ c cs → ClauseWithin n c

-- what is within the numbers below n is within more numbers
pub within_more : (n m : ℕ) (c : Clause) → n ≤ m → ClauseWithin n c → ClauseWithin m c
within_more n m c h w = record { premises_within = λ p k. let b = w.premises_within p k in (b.0, omega arith); conclusion_within = go c.conclusion w.conclusion_within }
  where
    go : (k : Conclusion) → ConclusionWithin n k → ConclusionWithin m k
    go (equals p) b = (b.0, omega arith)
    go (differs p) b = (b.0, omega arith)
    go falsum b = tt

-- the terms of a disequality that is concluded are numbers below n, the lower one left
abbrev pub LastsWithin : ℕ → List Clause → Type 0
LastsWithin n cs = (c : Clause) → Memᴰ c cs → T (is_last c.conclusion) → ConclusionWithin n c.conclusion

-- the clauses that stand are within the numbers below n: of premises and of equalities only such stand
pub standing_within : (n : ℕ) (cs : List Clause) → LastsWithin n cs → ClausesWithin n (standing n cs)
standing_within n cs lasts c m =
    let r = standing_mem n cs c m in
    let concluded = ⊎_elim (λ h. lasts r.0 r.1 h) (λ h. subst (ConclusionWithin n) (sym h.2) h.1) r.3 in
    subst (ClauseWithin n) (sym r.2) (record { premises_within = λ p k. (ascending_mem n r.0.premises p k).1; conclusion_within = concluded })

-- clauses with one conclusion have the same premises
abbrev pub PremisesAgree : List Clause → Type 0
PremisesAgree cs = (c d : Clause) → Memᴰ c cs → Memᴰ d cs → c.conclusion ≡ d.conclusion → (p : Pair) → Memᴰ p c.premises → Memᴰ p d.premises

-- the clauses of kind 3 or 4 have one conclusion
abbrev pub LastsAgree : List Clause → Type 0
LastsAgree cs = (c d : Clause) → Memᴰ c cs → Memᴰ d cs → T (is_last c.conclusion) → T (is_last d.conclusion) → c.conclusion ≡ d.conclusion

-- so they have where there is none of them
pub no_lasts_agree : (cs : List Clause) → ((c : Clause) → Memᴰ c cs → T (is_last c.conclusion) → ⊥) → LastsAgree cs
no_lasts_agree cs f c d m k h l = absurd (f c m h)

-- and where the one that stands behind the others is the only one
pub one_last_agree : (cs : List Clause) (e : Clause) → ((c : Clause) → Memᴰ c cs → T (is_last c.conclusion) → ⊥) → LastsAgree (cs ++ (e ∷ []))
one_last_agree cs e f c d m k h l = ap (λ (x : Clause). x.conclusion) (is c m h ∙ sym (is d k l))
  where
    is : (c : Clause) → Memᴰ c (cs ++ (e ∷ [])) → T (is_last c.conclusion) → c ≡ e
    is c m h = ⊎_elim (λ k. absurd (f c k h)) Memᴰ.eq_of_singleton (Memᴰ.append_cases cs m)

-- the list stands for a set of clauses over the numbers below n, with one clause for a conclusion, and at most one of kind 3 or 4
pub record OneEach (n : ℕ) (cs : List Clause) : Type 0 where
  pub within : ClausesWithin n cs
  pub agree : PremisesAgree cs
  pub lasts : LastsAgree cs

-- where all clauses of the list are true, all that stand are
pub true_standing : (n : ℕ) (cs : List Clause) → ClausesWithin n cs → (I : Interpretation) (table : List Term) → TrueClauses I table cs → TrueClauses I table (standing n cs)
true_standing n cs within I table t c m =
    let r = standing_mem n cs c m in
    subst (TrueClause I table) (sym r.2) (λ f. t r.0 r.1 (λ p k. f p (mem_ascending n r.0.premises p k ((within r.0 r.1).premises_within p k))))

-- where all clauses of the list use shared symbols only, so do those that stand
pub shared_standing : (n : ℕ) (cs : List Clause) (ts : List Term) (ls : List Literal) (table : List Term) → ((c : Clause) → Memᴰ c cs → SharedClause ts ls table c) → (c : Clause) → Memᴰ c (standing n cs) → SharedClause ts ls table c
shared_standing n cs ts ls table s c m =
    let r = standing_mem n cs c m in
    let q = s r.0 r.1 in
    subst (SharedClause ts ls table) (sym r.2) (λ p k. q.0 p (ascending_mem n r.0.premises p k).0, q.1)

-- two clauses say the same: one conclusion, and the same premises in whatever order
pub record SameClause (c d : Clause) : Type 0 where
  pub conclusions : c.conclusion ≡ d.conclusion
  pub premises_same : (p : Pair) → Memᴰ p c.premises ↔ Memᴰ p d.premises

-- such clauses are one when their premises are put in order
pub in_order_same : (n : ℕ) (c d : Clause) → SameClause c d → clause_in_order n c ≡ clause_in_order n d
in_order_same n c d w = λ i. record { premises = ascending_agree n c.premises d.premises w.premises_same i; conclusion = w.conclusions i }

module _ (n : ℕ) (cs : List Clause) (one : OneEach n cs) where
  -- two clauses of the list with one conclusion say the same
  pub same_of_list : (c d : Clause) → Memᴰ c cs → Memᴰ d cs → c.conclusion ≡ d.conclusion → SameClause c d
  same_of_list c d m k e = record { conclusions = e; premises_same = λ p. (one.agree c d m k e p, one.agree d c k m (sym e) p) }

  -- every clause of the list stands, its premises in order
  pub all_standing : (c : Clause) → Memᴰ c cs → Memᴰ (clause_in_order n c) (standing n cs)
  unfolding is_last
  all_standing c m = go c.conclusion refl (one.within c m).conclusion_within
    where
      instead : (d : Clause) → Memᴰ d cs → d.conclusion ≡ c.conclusion → Memᴰ (clause_in_order n d) (standing n cs) → Memᴰ (clause_in_order n c) (standing n cs)
      instead d k e s = subst (λ (x : Clause). Memᴰ x (standing n cs)) (in_order_same n d c (same_of_list d c k m e)) s

      last : T (is_last c.conclusion) → Memᴰ (clause_in_order n c) (standing n cs)
      last h = let r = last_standing n cs c m h in instead r.0 r.1 (one.lasts r.0 c r.1 m r.2 h) r.3

      go : (k : Conclusion) → c.conclusion ≡ k → ConclusionWithin n k → Memᴰ (clause_in_order n c) (standing n cs)
      go (equals p) e h = let r = mem_standing n cs c p m e h in instead r.0 r.1 (r.2 ∙ sym e) r.3
      go (differs p) e h = last (subst (λ (k : Conclusion). T (is_last k)) (sym e) tt)
      go falsum e h = last (subst (λ (k : Conclusion). T (is_last k)) (sym e) tt)

  -- exactly the clauses of the list stand, their premises in order
  pub standing_exactly : (c : Clause) → Memᴰ c (standing n cs) ↔ ((d : Clause) × Memᴰ d cs × (c ≡ clause_in_order n d))
  standing_exactly c = (λ m. let r = standing_mem n cs c m in (r.0, r.1, r.2), λ r. subst (λ (x : Clause). Memᴰ x (standing n cs)) (sym r.2) (all_standing r.0 r.1))

  -- the order changes nothing in what the clauses say
  pub standing_true : (I : Interpretation) (table : List Term) → TrueClauses I table cs ↔ TrueClauses I table (standing n cs)
  standing_true I table = (true_standing n cs one.within I table, λ t c m f. t (clause_in_order n c) (all_standing c m) (λ p k. f p (ascending_mem n c.premises p k).0))

  -- nor in what symbols they use
  pub standing_shared : (ts : List Term) (ls : List Literal) (table : List Term) → ((c : Clause) → Memᴰ c cs → SharedClause ts ls table c) ↔ ((c : Clause) → Memᴰ c (standing n cs) → SharedClause ts ls table c)
  standing_shared ts ls table = (
    shared_standing n cs ts ls table,
    λ s c m. let q = s (clause_in_order n c) (all_standing c m) in (λ p k. q.0 p (mem_ascending n c.premises p k ((one.within c m).premises_within p k)), q.1),
  )

-- every clause of the one list is said by a clause of the other
abbrev pub SaidBy : List Clause → List Clause → Type 0
SaidBy cs ds = (c : Clause) → Memᴰ c cs → (d : Clause) × Memᴰ d ds × SameClause c d

-- what stands is said by what stands
standing_said : (n : ℕ) (cs ds : List Clause) → OneEach n ds → SaidBy cs ds → (c : Clause) → Memᴰ c (standing n cs) → Memᴰ c (standing n ds)
standing_said n cs ds one f c m =
    let r = standing_mem n cs c m in
    let q = f r.0 r.1 in
    (standing_exactly n ds one c).1 (q.0, q.1, r.2 ∙ in_order_same n r.0 q.0 q.2)

-- the clauses that stand are determined by what the list says: not by its order, nor by how often a clause or a premise stands in it
pub standing_determined : (n : ℕ) (cs ds : List Clause) → OneEach n cs → OneEach n ds → SaidBy cs ds → SaidBy ds cs → standing n cs ≡ standing n ds
standing_determined n cs ds one two f g =
    ordered_unique ClauseBefore (λ c d. concludes_before_asymmetric c.conclusion d.conclusion) (standing n cs) (standing n ds) (standing_ordered n cs) (standing_ordered n ds) (standing_said n cs ds two f) (standing_said n ds cs one g)

-- ---- [p]

-- its members are u and v
pub between_cases : (u v : ℕ) → ((u < v) × (between u v ≡ pair u v)) ⊎ ((v ≤ u) × (between u v ≡ pair v u))
unfolding between
between_cases u v = by_test (ltb u v)
    (λ e. inl (ltb→lt u v (passes (ltb u v) e), ap (λ (b : Bool). cond b (pair u v) (pair v u)) e))
    (λ e. inr (nltb→le u v (fails (ltb u v) e), ap (λ (b : Bool). cond b (pair u v) (pair v u)) e))

-- a property of a pair that both (u, v) and (v, u) have is one of [p]
pub between_either {ℓ} : (P : Pair → Type ℓ) (u v : ℕ) → P (pair u v) → P (pair v u) → P (between u v)
between_either P u v h k = ⊎_elim (λ c. subst P (sym c.1) h) (λ c. subst P (sym c.1) k) (between_cases u v)

-- "Left is below right", where the ends differ and are below n
pub between_within : (n u v : ℕ) → (u ≡ v → ⊥) → u < n → v < n → PairWithin n (between u v)
between_within n u v d h k = ⊎_elim
    (λ c. subst (PairWithin n) (sym c.1) (c.0, k))
    (λ c. subst (PairWithin n) (sym c.1) (omega (arith, c.0, d), h))
    (between_cases u v)

-- "Left is below right", where the ends differ
pub between_lower : (u v : ℕ) → (u ≡ v → ⊥) → (between u v).left < (between u v).right
between_lower u v d = ⊎_elim
    (λ c. subst (λ (p : Pair). p.left < p.right) (sym c.1) c.0)
    (λ c. subst (λ (p : Pair). p.left < p.right) (sym c.1) (omega (arith, c.0, d)))
    (between_cases u v)

-- the ends may be told in either order
pub between_swap : (u v : ℕ) → between u v ≡ between v u
between_swap u v = go (between_cases u v) (between_cases v u)
  where
    go : ((u < v) × (between u v ≡ pair u v)) ⊎ ((v ≤ u) × (between u v ≡ pair v u)) → ((v < u) × (between v u ≡ pair v u)) ⊎ ((u ≤ v) × (between v u ≡ pair u v)) → between u v ≡ between v u
    go (inl c) (inl d) = absurd (omega arith)
    go (inl c) (inr d) = c.1 ∙ sym d.1
    go (inr c) (inl d) = c.1 ∙ sym d.1
    go (inr c) (inr d) = let e : u ≡ v = omega arith in c.1 ∙ (λ i. pair (sym e i) (e i)) ∙ sym d.1

-- [p] is true exactly where its ends have one value
pub between_true : (I : Interpretation) (table : List Term) (u v : ℕ) → TrueEquality I table (between u v) ↔ (value I table u ≡ value I table v)
between_true I table u v = (λ h. ⊎_elim (λ c. subst (TrueEquality I table) c.1 h) (λ c. sym (subst (TrueEquality I table) c.1 h)) (between_cases u v), λ h. between_either (TrueEquality I table) u v h (sym h))

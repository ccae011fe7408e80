-- Each edge of a graph without a cycle makes one set of joined terms of two: so there are fewer edges than terms.
use mathlib.Core.Bool.{Bool, true, false, cond, not}
use mathlib.Core.List.Memᴰ
use mathlib.Core.List.{List, [], ◌∷◌, Memᴰ}
use mathlib.Core.Logic.{⊎_elim}
use mathlib.Core.Path.{◌≡◌, refl, sym, ap, subst, ◌∙◌}
use Prim.Native.Nat.{ℕ, zero, suc, ◌+◌, ◌≤◌, ◌<◌}
use native.Mathlib.Nat.{lt_irrefl}
use native.Mathlib.Omega.{arith}
use lib.Dec.{T, T_not, not_T, eqb, eqb→eq, eqb_refl}
use lib.ListN.{length, get_or}
use Rattle.tables.specs.Words.{below, keep, among}
use Rattle.tables.proofs.Words.{passed, failed, same_test, keep_mem, mem_keep, get_d_mem, length_below, below_mem, mem_below, among_mem, mem_among}
use Rattle.closure.specs.Graph.{Edge, Graph, label, joined}
use Rattle.closure.specs.Walks.{Once, nothing, new}
use Rattle.closure.proofs.Walking.Joined.{joined_label, label_joined, joined_more, joined_ends, label_moved, label_kept, label_cases}
use Rattle.closure.proofs.Walking.Invariant.{Each, Forest}
use Rattle.closure.proofs.Walking.OnePath.{once_append}

-- ---- how many members pass a test

-- all pass
keep_all : (p : ℕ → Bool) (xs : List ℕ) → ((x : ℕ) → T (p x)) → keep p xs ≡ xs
unfolding keep
keep_all p [] f = refl
keep_all p (x ∷ xs) f = ap (λ (b : Bool). cond b (x ∷ keep p xs) (keep p xs)) (passed (p x) (f x)) ∙ ap (λ (l : List ℕ). x ∷ l) (keep_all p xs f)

-- two tests that agree on every member keep the same
keep_same : (p q : ℕ → Bool) (xs : List ℕ) → ((x : ℕ) → Memᴰ x xs → p x ≡ q x) → keep p xs ≡ keep q xs
unfolding keep
keep_same p q [] f = refl
keep_same p q (x ∷ xs) f =
    ap (λ (b : Bool). cond b (x ∷ keep p xs) (keep p xs)) (f x (Memᴰ.head refl)) ∙
    ap (λ (l : List ℕ). cond (q x) (x ∷ l) l) (keep_same p q xs (λ y m. f y (Memᴰ.tail m)))

-- one member passes the first test alone, and on every other the two agree: the first keeps one member more
keep_one_less : (p q : ℕ → Bool) {xs : List ℕ} {r : ℕ} → Once xs → Memᴰ r xs → T (p r) → T (not (q r)) → ((x : ℕ) → (x ≡ r → ⊥) → p x ≡ q x) → length (keep p xs) ≡ suc (length (keep q xs))
unfolding keep
keep_one_less p q nothing absent a b same = elim absent [ ]
keep_one_less p q {xs} {r} (new {x = x} {xs = ys} f o) (Memᴰ.head e) a b same =
    ap (λ (c : Bool). length (cond c (x ∷ keep p ys) (keep p ys))) (passed (p x) (subst (λ (z : ℕ). T (p z)) e a)) ∙
    ap (λ (l : List ℕ). suc (length l)) (keep_same p q ys (λ y m. same y (λ d. f (Memᴰ.cast (sym e ∙ sym d) m)))) ∙
    sym (ap (λ (c : Bool). suc (length (cond c (x ∷ keep q ys) (keep q ys)))) (failed (q x) (subst (λ (z : ℕ). T (not (q z))) e b)))
keep_one_less p q {xs} {r} (new {x = x} {xs = ys} f o) (Memᴰ.tail m) a b same = go (q x) (same x (λ d. f (Memᴰ.cast d m))) (keep_one_less p q o m a b same)
  where
    go : (c : Bool) → p x ≡ c → length (keep p ys) ≡ suc (length (keep q ys)) → length (cond (p x) (x ∷ keep p ys) (keep p ys)) ≡ suc (length (cond c (x ∷ keep q ys) (keep q ys)))
    go true d h = ap (λ (c : Bool). length (cond c (x ∷ keep p ys) (keep p ys))) d ∙ ap suc h
    go false d h = ap (λ (c : Bool). length (cond c (x ∷ keep p ys) (keep p ys))) d ∙ h

-- ---- lists of numbers without repetition

-- what a test keeps of such a list is one
pub once_keep : (p : ℕ → Bool) {xs : List ℕ} → Once xs → Once (keep p xs)
unfolding keep
once_keep p nothing = nothing
once_keep p (new {x = x} {xs = xs} f o) = go (p x) (once_keep p o)
  where
    go : (b : Bool) → Once (keep p xs) → Once (cond b (x ∷ keep p xs) (keep p xs))
    go true k = new (λ m. f (keep_mem p xs m).0) k
    go false k = k

-- the numbers below n are one
pub once_below : (n : ℕ) → Once (below n)
unfolding below
once_below zero = nothing
once_below (suc n) = once_append (once_below n) (new (λ m. Memᴰ.not-nil m) nothing) (λ x m k. lt_irrefl n (subst (λ (y : ℕ). y < n) (Memᴰ.eq_of_singleton k) (below_mem n m)))

-- a test keeps no more than there is
keep_length : (p : ℕ → Bool) (xs : List ℕ) → length (keep p xs) ≤ length xs
unfolding keep
keep_length p [] = omega arith
keep_length p (x ∷ xs) = go (p x) (keep_length p xs)
  where
    go : (b : Bool) → length (keep p xs) ≤ length xs → length (cond b (x ∷ keep p xs) (keep p xs)) ≤ length (x ∷ xs)
    go true h = omega arith
    go false h = omega arith

-- such a list of numbers below n is no longer than n: each of its members is one of them
pub once_length : (n : ℕ) {xs : List ℕ} → Once xs → ((x : ℕ) → Memᴰ x xs → x < n) → length xs ≤ n
once_length n {xs} o h = omega (arith, members o h, keep_length (λ x. among x xs) (below n), length_below n)
  where
    members : {ys : List ℕ} → Once ys → ((y : ℕ) → Memᴰ y ys → y < n) → length ys ≤ length (keep (λ x. among x ys) (below n))
    members nothing b = omega arith
    members (new {x = y} {xs = ys} f q) b =
        let one =
        keep_one_less (λ x. among x (y ∷ ys)) (λ x. among x ys) (once_below n) (mem_below n y (b y (Memᴰ.head refl))) (mem_among (Memᴰ.head refl)) (not_T (among y ys) (λ k. f (among_mem y ys k)))
        (λ x d. same_test (among x (y ∷ ys)) (among x ys) (λ k. ⊎_elim (λ e. absurd (d e)) (λ m. mem_among m) (Memᴰ.cases_cons (among_mem x (y ∷ ys) k))) (λ k. mem_among (Memᴰ.tail (among_mem x ys k)))) in
        omega (arith, one, members q (λ z m. b z (Memᴰ.tail m)))

-- ---- labels

-- a label is its own label
pub label_label : (G : Graph) (v : ℕ) → label G (label G v) ≡ label G v
unfolding label
label_label [] v = refl
label_label (e ∷ G) v =
    ⊎_elim (λ c. ap (label (e ∷ G)) c.1 ∙ older e.left (label_label G e.left) ∙ joined_label (e ∷ G) e.left e.right (joined_ends e G) ∙ label_moved e G e.right refl ∙ sym c.1)
    (λ c. ap (label (e ∷ G)) c.1 ∙ older v (label_label G v))
    (label_cases e G v)
  where
    older : (x : ℕ) → label G (label G x) ≡ label G x → label (e ∷ G) (label G x) ≡ label (e ∷ G) x
    older x q = joined_label (e ∷ G) (label G x) x (joined_more e G (label G x) x (label_joined G (label G x) x q))

-- the ends of every edge stand in the list
abbrev pub EndsIn : List ℕ → Graph → Type 0
EndsIn vs = Each (λ G e. Memᴰ e.left vs × Memᴰ e.right vs)

-- so do the labels of its members
pub label_in : (vs : List ℕ) (G : Graph) → EndsIn vs G → {v : ℕ} → Memᴰ v vs → Memᴰ (label G v) vs
unfolding label
label_in vs [] ends m = m
label_in vs (e ∷ G) ends {v} m = ⊎_elim (λ c. Memᴰ.cast c.1 (label_in vs G ends.1 ends.0.0)) (λ c. Memᴰ.cast c.1 (label_in vs G ends.1 m)) (label_cases e G v)

-- ---- components

-- the number is its own label: it stands for the terms joined to it
abbrev pub stands : Graph → ℕ → Bool
stands G v = eqb (label G v) v

-- a number that is its own label passes
stands_is : (G : Graph) (v : ℕ) → label G v ≡ v → T (stands G v)
stands_is G v q = subst (λ (x : ℕ). T (eqb (label G v) x)) q (eqb_refl (label G v))

module _ (e : Edge) (G : Graph) (apart : T (not (joined G e.left e.right))) where
  -- the label of the newest edge's right end stands for its set no more
  stands_no_more : T (not (stands (e ∷ G) (label G e.right)))
  stands_no_more =
      not_T (stands (e ∷ G) (label G e.right))
      (λ k. T_not (joined G e.left e.right) apart (label_joined G e.left e.right (sym (label_moved e G (label G e.right) (label_label G e.right)) ∙ eqb→eq (label (e ∷ G) (label G e.right)) (label G e.right) k)))

  -- all other numbers stand as before
  stands_still : (v : ℕ) → (v ≡ label G e.right → ⊥) → stands G v ≡ stands (e ∷ G) v
  stands_still v d = same_test (stands G v) (stands (e ∷ G) v) (λ k. stands_is (e ∷ G) v (now (eqb→eq (label G v) v k))) (λ k. stands_is G v (before (eqb→eq (label (e ∷ G) v) v k)))
    where
      now : label G v ≡ v → label (e ∷ G) v ≡ v
      now q = label_kept e G v (not_T (joined G v e.right) (λ j. d (sym q ∙ joined_label G v e.right j))) ∙ q

      before : label (e ∷ G) v ≡ v → label G v ≡ v
      before q =
          ⊎_elim (λ c. absurd (T_not (joined G e.left e.right) apart (label_joined G e.left e.right (sym (label_label G e.left) ∙ ap (label G) (sym c.1 ∙ q) ∙ joined_label G v e.right c.0))))
          (λ c. sym c.1 ∙ q)
          (label_cases e G v)

-- edges and sets of joined terms together are as many as the terms
pub components : (G : Graph) → Forest G → (vs : List ℕ) → Once vs → EndsIn vs G → length G + length (keep (stands G) vs) ≡ length vs
unfolding label
components [] f vs o ends = omega (arith, ap length (keep_all (stands []) vs (λ x. eqb_refl x)))
components (e ∷ G) f vs o ends =
    let r = label G e.right in
    let less : length (keep (stands G) vs) ≡ suc (length (keep (stands (e ∷ G)) vs)) =
    keep_one_less (stands G) (stands (e ∷ G)) o (label_in vs G ends.1 ends.0.1) (stands_is G r (label_label G e.right)) (stands_no_more e G f.0) (stands_still e G f.0) in
    omega (arith, components G f.1 vs o ends.1)

-- a list with a member has a length
mem_length : {x : ℕ} {xs : List ℕ} → Memᴰ x xs → 0 < length xs
mem_length (Memᴰ.head e) = omega arith
mem_length (Memᴰ.tail m) = omega arith

-- so edges are fewer than terms, where there is a term: its label stands for it
pub fewer_edges : (G : Graph) → Forest G → (vs : List ℕ) → Once vs → EndsIn vs G → 0 < length vs → length G < length vs
fewer_edges G f vs o ends h =
    let v = get_or vs 0 0 in
    let one : 0 < length (keep (stands G) vs) = mem_length (mem_keep (stands G) (label_in vs G ends (get_d_mem vs 0 0 h)) (stands_is G (label G v) (label_label G v))) in
    omega (arith, components G f vs o ends)

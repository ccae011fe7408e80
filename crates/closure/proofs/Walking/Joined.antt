-- Joined is an equivalence that only grows, and a new edge joins just what it has to.
use mathlib.Core.Bool.{Bool, cond, not}
use mathlib.Core.List.{List, [], ◌∷◌}
use mathlib.Core.Logic.{◌⊎◌, inl, inr, ⊎_elim}
use mathlib.Core.Path.{◌≡◌, refl, sym, ap, subst, ◌∙◌}
use Prim.Native.Nat.{ℕ}
use lib.Dec.{T, eqb, eqb→eq, eqb_refl}
use Rattle.tables.proofs.Words.{by_test, passes, fails, and_left, and_right, and_both}
use Rattle.closure.specs.Graph.{Edge, Graph, label, joined, joined_pairwise}

-- joined is having one label
pub joined_by : (G : Graph) (u v : ℕ) → joined G u v ≡ eqb (label G u) (label G v)
unfolding joined
joined_by G u v = refl

pub joined_label : (G : Graph) (u v : ℕ) → T (joined G u v) → label G u ≡ label G v
unfolding joined
joined_label G u v h = eqb→eq (label G u) (label G v) h

pub label_joined : (G : Graph) (u v : ℕ) → label G u ≡ label G v → T (joined G u v)
unfolding joined
label_joined G u v e = subst (λ (x : ℕ). T (eqb (label G u) x)) e (eqb_refl (label G u))

pub joined_self : (G : Graph) (u : ℕ) → T (joined G u u)
joined_self G u = label_joined G u u refl

pub joined_sym : (G : Graph) (u v : ℕ) → T (joined G u v) → T (joined G v u)
joined_sym G u v h = label_joined G v u (sym (joined_label G u v h))

pub joined_trans : (G : Graph) (u v w : ℕ) → T (joined G u v) → T (joined G v w) → T (joined G u w)
joined_trans G u v w h k = label_joined G u w (joined_label G u v h ∙ joined_label G v w k)

-- without edges a term is joined to itself alone
pub joined_nothing : (u v : ℕ) → T (joined [] u v) → u ≡ v
unfolding label
joined_nothing u v h = joined_label [] u v h

-- the label under one edge more
pub label_moved : (e : Edge) (G : Graph) (v : ℕ) → label G v ≡ label G e.right → label (e ∷ G) v ≡ label G e.left
unfolding label
label_moved e G v q = ap (λ (b : Bool). cond b (label G e.left) (label G v)) (Rattle.tables.proofs.Words.passed (eqb (label G v) (label G e.right)) (subst (λ (x : ℕ). T (eqb (label G v) x)) q (eqb_refl (label G v))))

pub label_kept : (e : Edge) (G : Graph) (v : ℕ) → T (not (joined G v e.right)) → label (e ∷ G) v ≡ label G v
unfolding label joined
label_kept e G v h = ap (λ (b : Bool). cond b (label G e.left) (label G v)) (Rattle.tables.proofs.Words.failed (eqb (label G v) (label G e.right)) h)

-- a term is joined to the new edge's right end already, or keeps its label
pub label_cases : (e : Edge) (G : Graph) (v : ℕ) → (T (joined G v e.right) × (label (e ∷ G) v ≡ label G e.left)) ⊎ (T (not (joined G v e.right)) × (label (e ∷ G) v ≡ label G v))
label_cases e G v =
    by_test (joined G v e.right)
    (λ q. let h = passes (joined G v e.right) q in inl (h, label_moved e G v (joined_label G v e.right h)))
    (λ q. let h = fails (joined G v e.right) q in inr (h, label_kept e G v h))

pub joined_more : (e : Edge) (G : Graph) (u v : ℕ) → T (joined G u v) → T (joined (e ∷ G) u v)
unfolding label
joined_more e G u v h = label_joined (e ∷ G) u v (ap (λ (x : ℕ). cond (eqb x (label G e.right)) (label G e.left) x) (joined_label G u v h))

-- the ends of an edge are joined
pub joined_ends : (e : Edge) (G : Graph) → T (joined (e ∷ G) e.left e.right)
joined_ends e G =
    label_joined (e ∷ G) e.left e.right
    (⊎_elim (λ c. c.1) (λ c. c.1) (label_cases e G e.left) ∙ sym (label_moved e G e.right refl))

-- what one edge more joins was joined, or is joined by way of the edge
pub joined_cases : (e : Edge) (G : Graph) (u v : ℕ) → T (joined (e ∷ G) u v) → T (joined G u v) ⊎ ((T (joined G u e.left) × T (joined G e.right v)) ⊎ (T (joined G u e.right) × T (joined G e.left v)))
joined_cases e G u v h = go (label_cases e G u) (label_cases e G v) (joined_label (e ∷ G) u v h)
  where
    go : (T (joined G u e.right) × (label (e ∷ G) u ≡ label G e.left)) ⊎ (T (not (joined G u e.right)) × (label (e ∷ G) u ≡ label G u)) → (T (joined G v e.right) × (label (e ∷ G) v ≡ label G e.left)) ⊎ (T (not (joined G v e.right)) × (label (e ∷ G) v ≡ label G v)) → label (e ∷ G) u ≡ label (e ∷ G) v → T (joined G u v) ⊎ ((T (joined G u e.left) × T (joined G e.right v)) ⊎ (T (joined G u e.right) × T (joined G e.left v)))
    go (inl a) (inl b) q = inl (joined_trans G u e.right v a.0 (joined_sym G v e.right b.0))
    go (inl a) (inr b) q = inr (inr (a.0, label_joined G e.left v (sym a.1 ∙ q ∙ b.1)))
    go (inr a) (inl b) q = inr (inl (label_joined G u e.left (sym a.1 ∙ q ∙ b.1), joined_sym G v e.right b.0))
    go (inr a) (inr b) q = inl (label_joined G u v (sym a.1 ∙ q ∙ b.1))

-- arguments that are joined pair by pair stay so
pub joined_pairwise_more : (e : Edge) (G : Graph) (xs ys : List ℕ) → T (joined_pairwise G xs ys) → T (joined_pairwise (e ∷ G) xs ys)
unfolding joined_pairwise
joined_pairwise_more e G [] [] h = tt
joined_pairwise_more e G [] (y ∷ ys) h = h
joined_pairwise_more e G (x ∷ xs) [] h = h
joined_pairwise_more e G (x ∷ xs) (y ∷ ys) h =
    and_both (joined (e ∷ G) x y) (joined_pairwise (e ∷ G) xs ys) (joined_more e G x y (and_left (joined G x y) (joined_pairwise G xs ys) h)) (joined_pairwise_more e G xs ys (and_right (joined G x y) (joined_pairwise G xs ys) h))

-- the label without edges, and under one edge more by the labels before
pub label_nothing : (v : ℕ) → label [] v ≡ v
unfolding label
label_nothing v = refl

pub label_edge : (e : Edge) (G : Graph) (v : ℕ) → label (e ∷ G) v ≡ cond (eqb (label G v) (label G e.right)) (label G e.left) (label G v)
unfolding label
label_edge e G v = refl

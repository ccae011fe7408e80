-- Laws of "one symbol, and their arguments are joined pair by pair": congruent is an equivalence that only grows, and it gives equal values.
use mathlib.Core.List.{List, [], ◌∷◌, map}
use mathlib.Core.Path.{◌≡◌, refl, sym, ap₂, subst, ◌∙◌}
use Prim.Native.Nat.{ℕ, ◌<◌}
use lib.Dec.{T, eqb, eqb→eq, eqb_refl}
use lib.ListN.{length}
use Rattle.tables.specs.Terms.{Term, term_at}
use Rattle.tables.specs.Parts.{LowerArguments}
use Rattle.tables.specs.Interpretations.{Interpretation, value}
use Rattle.tables.proofs.Words.{and_left, and_right, and_both}
use Rattle.tables.proofs.Terms.{value_law}
use Rattle.closure.specs.Graph.{Edge, Graph, joined, joined_pairwise}
use Rattle.closure.specs.Steps.{congruent}
use Rattle.closure.proofs.Walking.Joined.{joined_self, joined_sym, joined_trans, joined_pairwise_more}

-- ---- lists joined pair by pair

module _ (G : Graph) where
  -- two lists whose heads and tails are joined
  pub pairwise_cons : (x y : ℕ) (xs ys : List ℕ) → T (joined G x y) → T (joined_pairwise G xs ys) → T (joined_pairwise G (x ∷ xs) (y ∷ ys))
  unfolding joined_pairwise
  pairwise_cons x y xs ys h k = and_both (joined G x y) (joined_pairwise G xs ys) h k

  -- the heads of two lists joined pair by pair
  pub pairwise_head : (x y : ℕ) (xs ys : List ℕ) → T (joined_pairwise G (x ∷ xs) (y ∷ ys)) → T (joined G x y)
  unfolding joined_pairwise
  pairwise_head x y xs ys h = and_left (joined G x y) (joined_pairwise G xs ys) h

  -- their tails
  pub pairwise_tail : (x y : ℕ) (xs ys : List ℕ) → T (joined_pairwise G (x ∷ xs) (y ∷ ys)) → T (joined_pairwise G xs ys)
  unfolding joined_pairwise
  pairwise_tail x y xs ys h = and_right (joined G x y) (joined_pairwise G xs ys) h

  -- a list is joined to itself
  pub pairwise_self : (xs : List ℕ) → T (joined_pairwise G xs xs)
  unfolding joined_pairwise
  pairwise_self [] = tt
  pairwise_self (x ∷ xs) = pairwise_cons x x xs xs (joined_self G x) (pairwise_self xs)

  -- in either order
  pub pairwise_sym : (xs ys : List ℕ) → T (joined_pairwise G xs ys) → T (joined_pairwise G ys xs)
  unfolding joined_pairwise
  pairwise_sym [] [] h = tt
  pairwise_sym [] (y ∷ ys) h = h
  pairwise_sym (x ∷ xs) [] h = h
  pairwise_sym (x ∷ xs) (y ∷ ys) h = pairwise_cons y x ys xs (joined_sym G x y (pairwise_head x y xs ys h)) (pairwise_sym xs ys (pairwise_tail x y xs ys h))

  -- by way of a third
  pub pairwise_trans : (xs ys zs : List ℕ) → T (joined_pairwise G xs ys) → T (joined_pairwise G ys zs) → T (joined_pairwise G xs zs)
  unfolding joined_pairwise
  pairwise_trans [] [] zs h k = k
  pairwise_trans [] (y ∷ ys) zs h k = absurd h
  pairwise_trans (x ∷ xs) [] zs h k = absurd h
  pairwise_trans (x ∷ xs) (y ∷ ys) [] h k = k
  pairwise_trans (x ∷ xs) (y ∷ ys) (z ∷ zs) h k = pairwise_cons x z xs zs (joined_trans G x y z (pairwise_head x y xs ys h) (pairwise_head y z ys zs k)) (pairwise_trans xs ys zs (pairwise_tail x y xs ys h) (pairwise_tail y z ys zs k))

  -- what is the same on joined numbers is the same on lists joined pair by pair
  pub pairwise_agree {ℓ} : {X : Type ℓ} (f : ℕ → X) → ((x y : ℕ) → T (joined G x y) → f x ≡ f y) → (xs ys : List ℕ) → T (joined_pairwise G xs ys) → map f xs ≡ map f ys
  unfolding joined_pairwise
  pairwise_agree f g [] [] h = refl
  pairwise_agree f g [] (y ∷ ys) h = absurd h
  pairwise_agree f g (x ∷ xs) [] h = absurd h
  pairwise_agree f g (x ∷ xs) (y ∷ ys) h = ap₂ (λ a as'. a ∷ as') (g x y (pairwise_head x y xs ys h)) (pairwise_agree f g xs ys (pairwise_tail x y xs ys h))

-- ---- congruent terms

module _ (table : List Term) (G : Graph) where
  -- congruent terms have one symbol
  pub congruent_symbol : (s t : ℕ) → T (congruent table G s t) → (term_at table s).symbol ≡ (term_at table t).symbol
  unfolding congruent
  congruent_symbol s t h = eqb→eq (term_at table s).symbol (term_at table t).symbol (and_left (eqb (term_at table s).symbol (term_at table t).symbol) (joined_pairwise G (term_at table s).arguments (term_at table t).arguments) h)

  -- and joined arguments
  pub congruent_arguments : (s t : ℕ) → T (congruent table G s t) → T (joined_pairwise G (term_at table s).arguments (term_at table t).arguments)
  unfolding congruent
  congruent_arguments s t h = and_right (eqb (term_at table s).symbol (term_at table t).symbol) (joined_pairwise G (term_at table s).arguments (term_at table t).arguments) h

  -- and that is all
  pub congruent_made : (s t : ℕ) → (term_at table s).symbol ≡ (term_at table t).symbol → T (joined_pairwise G (term_at table s).arguments (term_at table t).arguments) → T (congruent table G s t)
  unfolding congruent
  congruent_made s t e h = and_both (eqb (term_at table s).symbol (term_at table t).symbol) (joined_pairwise G (term_at table s).arguments (term_at table t).arguments) (subst (λ (f : ℕ). T (eqb (term_at table s).symbol f)) e (eqb_refl (term_at table s).symbol)) h

  -- a term is congruent to itself
  pub congruent_self : (s : ℕ) → T (congruent table G s s)
  congruent_self s = congruent_made s s refl (pairwise_self G (term_at table s).arguments)

  -- in either order
  pub congruent_sym : (s t : ℕ) → T (congruent table G s t) → T (congruent table G t s)
  congruent_sym s t h = congruent_made t s (sym (congruent_symbol s t h)) (pairwise_sym G (term_at table s).arguments (term_at table t).arguments (congruent_arguments s t h))

  -- by way of a third
  pub congruent_trans : (s t u : ℕ) → T (congruent table G s t) → T (congruent table G t u) → T (congruent table G s u)
  congruent_trans s t u h k = congruent_made s u (congruent_symbol s t h ∙ congruent_symbol t u k) (pairwise_trans G (term_at table s).arguments (term_at table t).arguments (term_at table u).arguments (congruent_arguments s t h) (congruent_arguments t u k))

  -- congruent terms stay so under one edge more
  pub congruent_more : (e : Edge) (s t : ℕ) → T (congruent table G s t) → T (congruent table (e ∷ G) s t)
  unfolding congruent
  congruent_more e s t h = and_both (eqb (term_at table s).symbol (term_at table t).symbol) (joined_pairwise (e ∷ G) (term_at table s).arguments (term_at table t).arguments) (and_left (eqb (term_at table s).symbol (term_at table t).symbol) (joined_pairwise G (term_at table s).arguments (term_at table t).arguments) h) (joined_pairwise_more e G (term_at table s).arguments (term_at table t).arguments (congruent_arguments s t h))

  -- congruent terms have one value where joined ones have
  pub congruent_value : (I : Interpretation) → LowerArguments table → ((x y : ℕ) → T (joined G x y) → value I table x ≡ value I table y) → (s t : ℕ) → s < length table → t < length table → T (congruent table G s t) → value I table s ≡ value I table t
  congruent_value I low same s t hs ht h =
      value_law I table low s hs ∙
      ap₂ I.function (congruent_symbol s t h) (pairwise_agree G (value I table) same (term_at table s).arguments (term_at table t).arguments (congruent_arguments s t h)) ∙
      sym (value_law I table low t ht)

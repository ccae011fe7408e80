-- When no step is left, a finite interpretation gives two vertices one value exactly when they are joined. Nothing here speaks of runs: the graph is
-- any in which congruent vertices are joined.
use Rattle.std.proofs.Common.{Option, Some, None}
use mathlib.Core.Bool.{Bool, ◌&&◌}
use mathlib.Core.List.Memᴰ
use mathlib.Core.List.{List, [], ◌∷◌, ◌++◌, map, Memᴰ}
use mathlib.Core.Path.{◌≡◌, refl, sym, ap, subst, ◌∙◌}
use Prim.Native.Nat.{ℕ, zero, suc, ◌<◌}
use native.Mathlib.Nat.{le_refl, not-suc-le-zero}
use native.Mathlib.Omega.{arith}
use lib.Dec.{T, eqb, eqb_refl}
use lib.ListN.{length}
use Rattle.tables.specs.Words.{below, same, first_below}
use Rattle.tables.specs.Terms.{Term, term_at}
use Rattle.tables.specs.Parts.{LowerArguments}
use Rattle.tables.specs.declared.Literal.{Literal}
use Rattle.tables.specs.declared.Kind.{Kind}
use Rattle.tables.specs.declared.Kind.TheVariants.{Equal, Different}
use Rattle.tables.specs.declared.Side.{Side}
use Rattle.tables.specs.Interpretations.{Interpretation, Finite, value, HoldsAs, Holds, Satisfies, SatisfiesEqualities}
use Rattle.tables.proofs.Words.{and_left, and_right, and_both, same_eq, same_self, mem_below, first_below_some, first_below_none}
use Rattle.tables.proofs.Terms.{map_agree, lower_append, value_law, value_append}
use Rattle.tables.proofs.Colours.{SidesWithin}
use Rattle.closure.specs.Graph.{Edge, Graph, label, joined, joined_pairwise}
use Rattle.closure.specs.Steps.{congruent}
use Rattle.closure.proofs.Walking.Joined.{joined_label, label_joined}

-- ---- labels

-- lists with one list of labels are joined pair by pair
pub labels_joined : (G : Graph) (xs ys : List ℕ) → map (label G) xs ≡ map (label G) ys → T (joined_pairwise G xs ys)
unfolding joined_pairwise
labels_joined G [] [] e = tt
labels_joined G [] (y ∷ ys) e = let z : ◌≡◌ {A = ℕ} 0 1 = cc in absurd (omega arith)
labels_joined G (x ∷ xs) [] e = let z : ◌≡◌ {A = ℕ} 0 1 = cc in absurd (omega arith)
labels_joined G (x ∷ xs) (y ∷ ys) e =
    let h : label G x ≡ label G y = cc in
    let t : map (label G) xs ≡ map (label G) ys = cc in
    and_both (joined G x y) (joined_pairwise G xs ys) (label_joined G x y h) (labels_joined G xs ys t)

-- both ends of an edge pass the test
abbrev pub Between : (ℕ → Bool) → Graph → Edge → Type 0
Between vertex H e = T (vertex e.left) × T (vertex e.right)

-- ---- the interpretation

-- the vertex v has the symbol f, and its arguments have the labels xs
unfoldable pub fits : List Term → Graph → (ℕ → Bool) → ℕ → List ℕ → ℕ → Bool
fits table G vertex f xs v = vertex v && (eqb (term_at table v).symbol f && same (map (label G) (term_at table v).arguments) xs)

-- the label of the vertex that is found, or else the extra value
unfoldable pub label_or : Graph → ℕ → Option ℕ → ℕ
label_or G extra (Some v) = label G v
label_or G extra None = extra

-- the function of a symbol: at the labels of a vertex's arguments it is the vertex's label, and elsewhere the extra value
unfoldable pub class_function : List Term → Graph → (ℕ → Bool) → ℕ → List ℕ → ℕ
unfolding fits label_or
class_function table G vertex f xs = label_or G (length table) (first_below (fits table G vertex f xs) (length table))

-- the domain: an extra value, so that it is never empty, and the labels of the table's terms
abbrev pub classes : List Term → Graph → List ℕ
classes table G = length table ∷ map (label G) (below (length table))

-- no function leads out of the domain
pub class_function_in : (table : List Term) (G : Graph) (vertex : ℕ → Bool) (f : ℕ) (xs : List ℕ) → Memᴰ (class_function table G vertex f xs) (classes table G)
unfolding class_function label_or
class_function_in table G vertex f xs = go (first_below (fits table G vertex f xs) (length table)) refl
  where
    go : (o : Option ℕ) → first_below (fits table G vertex f xs) (length table) ≡ o → Memᴰ (label_or G (length table) o) (classes table G)
    go (Some v) e = Memᴰ.tail (Memᴰ.map (label G) (mem_below (length table) v (first_below_some (fits table G vertex f xs) (length table) v e).within))
    go None e = Memᴰ.head refl

-- the interpretation whose values are the labels
abbrev pub model : List Term → Graph → (ℕ → Bool) → Interpretation
model table G vertex =
    record {
      Carrier = ℕ;
      Domain = λ x. Memᴰ x (classes table G);
      member = length table;
      member_in = Memᴰ.head refl;
      function = class_function table G vertex;
      function_in = λ f xs h. class_function_in table G vertex f xs;
    }

-- its domain is finite
pub model_finite : (table : List Term) (G : Graph) (vertex : ℕ → Bool) → Finite (model table G vertex)
model_finite table G vertex = (classes table G, λ x h. h)

-- ---- values are labels

module _ (table : List Term) (low : LowerArguments table) (G : Graph) (vertex : ℕ → Bool) (within : (v : ℕ) → T (vertex v) → v < length table) (closed : (v a : ℕ) → T (vertex v) → Memᴰ a (term_at table v).arguments → T (vertex a)) (done : (u v : ℕ) → T (vertex u) → T (vertex v) → T (congruent table G u v) → T (joined G u v)) where
  -- a vertex fits its own symbol and the labels of its own arguments
  fits_self : (v : ℕ) → T (vertex v) → T (fits table G vertex (term_at table v).symbol (map (label G) (term_at table v).arguments) v)
  unfolding fits
  fits_self v h =
      and_both (vertex v) (eqb (term_at table v).symbol (term_at table v).symbol && same (map (label G) (term_at table v).arguments) (map (label G) (term_at table v).arguments)) h
      (and_both (eqb (term_at table v).symbol (term_at table v).symbol) (same (map (label G) (term_at table v).arguments) (map (label G) (term_at table v).arguments)) (eqb_refl (term_at table v).symbol) (same_self (map (label G) (term_at table v).arguments)))

  -- what fits the symbol and the labels of a vertex has its label: the two are congruent, so they are joined
  fits_label : (v w : ℕ) → T (vertex v) → T (fits table G vertex (term_at table v).symbol (map (label G) (term_at table v).arguments) w) → label G w ≡ label G v
  unfolding fits congruent
  fits_label v w h k =
      let one = eqb (term_at table w).symbol (term_at table v).symbol in
      let labels = same (map (label G) (term_at table w).arguments) (map (label G) (term_at table v).arguments) in
      let both : T (one && labels) = and_right (vertex w) (one && labels) k in
      let pairwise = labels_joined G (term_at table w).arguments (term_at table v).arguments (same_eq (map (label G) (term_at table w).arguments) (map (label G) (term_at table v).arguments) (and_right one labels both)) in
      joined_label G w v (done w v (and_left (vertex w) (one && labels) k) h (and_both one (joined_pairwise G (term_at table w).arguments (term_at table v).arguments) (and_left one labels both) pairwise))

  -- so the function of a vertex's symbol at the labels of its arguments is its label
  function_label : (v : ℕ) → T (vertex v) → class_function table G vertex (term_at table v).symbol (map (label G) (term_at table v).arguments) ≡ label G v
  unfolding class_function label_or
  function_label v h = go (first_below test (length table)) refl
    where
      test : ℕ → Bool
      test = fits table G vertex (term_at table v).symbol (map (label G) (term_at table v).arguments)

      go : (o : Option ℕ) → first_below test (length table) ≡ o → label_or G (length table) o ≡ label G v
      go (Some w) e = fits_label v w h (first_below_some test (length table) w e).such
      go None e = absurd (first_below_none test (length table) e v (within v h) (fits_self v h))

  -- the same, by induction on a bound: a vertex's arguments are lower vertices
  value_below : (d v : ℕ) → v < d → T (vertex v) → value (model table G vertex) table v ≡ label G v
  value_below zero v k h = absurd (not-suc-le-zero k)
  value_below (suc d) v k h =
      value_law (model table G vertex) table low v (within v h) ∙
      ap (class_function table G vertex (term_at table v).symbol) (map_agree (value (model table G vertex) table) (label G) (term_at table v).arguments (λ a m. value_below d a (omega (arith, low v (within v h) a m)) (closed v a h m))) ∙
      function_label v h

  -- every vertex has its label for its value
  pub model_value : (v : ℕ) → T (vertex v) → value (model table G vertex) table v ≡ label G v
  model_value v h = value_below (suc v) v (le_refl (suc v)) h

-- ---- literals in the model, where more terms may stand behind the given ones

module _ (ts more : List Term) (ls : List Literal) (low : LowerArguments (ts ++ more)) (G : Graph) (vertex : ℕ → Bool) (within : (v : ℕ) → T (vertex v) → v < length (ts ++ more)) (closed : (v a : ℕ) → T (vertex v) → Memᴰ a (term_at (ts ++ more) v).arguments → T (vertex a)) (done : (u v : ℕ) → T (vertex u) → T (vertex v) → T (congruent (ts ++ more) G u v) → T (joined G u v)) where
  -- the value of a given vertex among the given terms is its label too
  pub given_value : (v : ℕ) → v < length ts → T (vertex v) → value (model (ts ++ more) G vertex) ts v ≡ label G v
  given_value v k h = sym (value_append (model (ts ++ more) G vertex) ts more (lower_append ts more low) v k) ∙ model_value (ts ++ more) low G vertex within closed done v h

  -- given vertices of one value are joined
  pub given_joined : (u v : ℕ) → u < length ts → v < length ts → T (vertex u) → T (vertex v) → value (model (ts ++ more) G vertex) ts u ≡ value (model (ts ++ more) G vertex) ts v → T (joined G u v)
  given_joined u v a b h k e = label_joined G u v (sym (given_value u a h) ∙ e ∙ given_value v b k)

  -- and joined ones have one value
  pub joined_given : (u v : ℕ) → u < length ts → v < length ts → T (vertex u) → T (vertex v) → T (joined G u v) → value (model (ts ++ more) G vertex) ts u ≡ value (model (ts ++ more) G vertex) ts v
  joined_given u v a b h k e = given_value u a h ∙ joined_label G u v e ∙ sym (given_value v b k)

  module _ (sides : SidesWithin ts ls) (sides_vertex : (l : Literal) → Memᴰ l ls → T (vertex l.left) × T (vertex l.right)) (equals : (l : Literal) → Memᴰ l ls → l.kind ≡ Equal → T (joined G l.left l.right)) where
    -- the model satisfies the equalities, where each has its sides joined
    pub model_equalities : SatisfiesEqualities (model (ts ++ more) G vertex) ts ls
    unfolding Holds HoldsAs
    model_equalities l m e =
        subst (λ (k : Kind). HoldsAs (model (ts ++ more) G vertex) ts k l.left l.right) (sym e)
        (joined_given l.left l.right (sides l m).0 (sides l m).1 (sides_vertex l m).0 (sides_vertex l m).1 (equals l m e))

    -- it satisfies A and B, where moreover no disequality has its sides joined
    pub model_satisfies : ((l : Literal) → Memᴰ l ls → l.kind ≡ Different → T (joined G l.left l.right) → ⊥) → (X : Side) → Satisfies (model (ts ++ more) G vertex) ts ls X
    unfolding Holds HoldsAs
    model_satisfies apart X l m s = go l.kind refl
      where
        go : (k : Kind) → l.kind ≡ k → HoldsAs (model (ts ++ more) G vertex) ts k l.left l.right
        go Equal e = joined_given l.left l.right (sides l m).0 (sides l m).1 (sides_vertex l m).0 (sides_vertex l m).1 (equals l m e)
        go Different e = λ q. apart l m e (given_joined l.left l.right (sides l m).0 (sides l m).1 (sides_vertex l m).0 (sides_vertex l m).1 q)

    -- two given vertices are joined, where every finite interpretation that satisfies the equalities gives them one value
    pub entailed_joined : (u v : ℕ) → u < length ts → v < length ts → T (vertex u) → T (vertex v) → ((I : Interpretation) → Finite I → SatisfiesEqualities I ts ls → value I ts u ≡ value I ts v) → T (joined G u v)
    entailed_joined u v a b h k f = given_joined u v a b h k (f (model (ts ++ more) G vertex) (model_finite (ts ++ more) G vertex) model_equalities)

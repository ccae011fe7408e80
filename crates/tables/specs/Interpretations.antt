-- Interpretations as demands 2 and 3 speak of them: a non-empty domain and, for each symbol, a function on it; the value of a term; when a literal
-- holds.
use mathlib.Core.List.{List, Memᴰ}
use Rattle.std.specs.Prelude.{◌≡◌, ℕ}
use Rattle.tables.specs.Terms.{Term, down}
use Rattle.tables.specs.LiteralTable.{Side, A, B}
use Rattle.tables.specs.declared.Literal.{Literal}
use Rattle.tables.specs.declared.Kind.{Kind}
use Rattle.tables.specs.declared.Kind.TheVariants.{Equal, Different}

-- The domain is a part of a carrier. It has a member, and no function leads out of it.
pub record Interpretation : Type 1 where
  pub Carrier : Type 0
  pub Domain : Carrier → Type 0
  pub member : Carrier
  pub member_in : Domain member
  pub function : ℕ → List Carrier → Carrier
  pub function_in : (f : ℕ) (xs : List Carrier) → ((x : Carrier) → Memᴰ x xs → Domain x) → Domain (function f xs)

-- "over a finite domain": a list holds all members of the domain
abbrev pub Finite : Interpretation → Type 0
Finite I = (all : List I.Carrier) × ((x : I.Carrier) → I.Domain x → Memᴰ x all)

-- the value of a term: its symbol's function at the values of its arguments
unfoldable pub value : (I : Interpretation) → List Term → ℕ → I.Carrier
value I = down (λ t term values. I.function term.symbol values) I.member

-- a literal of kind 1 holds when its sides have one value, one of kind 2 when they do not
unfoldable pub HoldsAs : (I : Interpretation) → List Term → Kind → ℕ → ℕ → Type 0
HoldsAs I ts Equal s t = value I ts s ≡ value I ts t
HoldsAs I ts Different s t = value I ts s ≡ value I ts t → ⊥

unfoldable pub Holds : (I : Interpretation) → List Term → Literal → Type 0
Holds I ts l = HoldsAs I ts l.kind l.left l.right

-- the interpretation satisfies A: every literal of side A holds; B likewise
abbrev pub Satisfies : (I : Interpretation) → List Term → List Literal → Side → Type 0
Satisfies I ts ls X = (l : Literal) → Memᴰ l ls → l.side ≡ X → Holds I ts l

-- the interpretation satisfies the equalities: every literal of kind 1 holds, of either side
abbrev pub SatisfiesEqualities : (I : Interpretation) → List Term → List Literal → Type 0
SatisfiesEqualities I ts ls = (l : Literal) → Memᴰ l ls → l.kind ≡ Equal → Holds I ts l

-- some interpretation satisfies A and B
abbrev pub Satisfiable : List Term → List Literal → Type 1
Satisfiable ts ls = (I : Interpretation) × Satisfies I ts ls A × Satisfies I ts ls B

-- "some interpretation over a finite, non-empty domain satisfies A and B"
abbrev pub FinitelySatisfiable : List Term → List Literal → Type 1
FinitelySatisfiable ts ls = (I : Interpretation) × Finite I × Satisfies I ts ls A × Satisfies I ts ls B

-- "every interpretation that satisfies the equalities gives them one value"
abbrev pub Entailed : List Term → List Literal → ℕ → ℕ → Type 1
Entailed ts ls u v = (I : Interpretation) → SatisfiesEqualities I ts ls → value I ts u ≡ value I ts v

-- the same of the interpretations over a finite domain alone
abbrev pub FinitelyEntailed : List Term → List Literal → ℕ → ℕ → Type 1
FinitelyEntailed ts ls u v = (I : Interpretation) → Finite I → SatisfiesEqualities I ts ls → value I ts u ≡ value I ts v

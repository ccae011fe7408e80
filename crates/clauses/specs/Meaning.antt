-- The premises and the path clauses of a path in 01's own words, with no count of turns. proofs/Meaning shows that the lists of Premises hold these.
use mathlib.Core.List.{List, Memᴰ}
use Rattle.std.specs.Prelude.{◌↔◌, ◌≡◌}
use Rattle.tables.specs.Words.{Pair}
use Rattle.tables.specs.Terms.{Term}
use Rattle.tables.specs.declared.Side.TheVariants.{A, B}
use Rattle.closure.specs.Graph.{Hop, Path, path, parent_paths}
use Rattle.clauses.specs.Clauses.{Clause, equals}
use Rattle.clauses.specs.Factors.{Factor, factors}
use Rattle.clauses.specs.Premises.{ends_of}

-- what is a premise of a path
pub data Premise (table : List Term) (p : Pair) : Path → Type 0 where
  -- "a B-factor is its own premise"
  own : {π : Path} {f : Factor} → Memᴰ f (factors π) → f.colour ≡ B → p ≡ ends_of f → Premise table p π
  -- "an A-factor's premises are the premises of the parent paths of its edges"
  parent : {π π' : Path} {f : Factor} {h : Hop} → Memᴰ f (factors π) → f.colour ≡ A → Memᴰ h f.hops → Memᴰ π' (parent_paths table h) → Premise table p π' → Premise table p π

-- a list that holds the premises of a factor's edges' parent paths, and nothing else
abbrev pub ListsPremises : List Term → Factor → List Pair → Type 0
ListsPremises table f ps =
    (p : Pair) → Memᴰ p ps ↔ ((h : Hop) × Memᴰ h f.hops × ((π : Path) × Memᴰ π (parent_paths table h) × Premise table p π))

-- what is a path clause of it
pub data PathClause (table : List Term) (c : Clause) : Path → Type 0 where
  -- "a B-factor has the path clauses of its edges' parent paths"
  inside : {π π' : Path} {f : Factor} {h : Hop} → Memᴰ f (factors π) → f.colour ≡ B → Memᴰ h f.hops → Memᴰ π' (parent_paths table h) → PathClause table c π' → PathClause table c π
  -- "an A-factor has the clause "premises imply [factor]""
  whole : {π : Path} {f : Factor} → Memᴰ f (factors π) → f.colour ≡ A → ListsPremises table f c.premises → c.conclusion ≡ equals (ends_of f) → PathClause table c π
  -- "and the path clauses of each premise"
  under : {π π' : Path} {f : Factor} {h : Hop} {p : Pair} → Memᴰ f (factors π) → f.colour ≡ A → Memᴰ h f.hops → Memᴰ π' (parent_paths table h) → Premise table p π' → PathClause table c (path h.older p.left p.right) → PathClause table c π

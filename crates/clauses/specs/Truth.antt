-- What demand 3 says of a summary: its symbols are shared, and when a clause is true in an interpretation.
use mathlib.Core.List.{List, Memᴰ}
use Rattle.std.specs.Prelude.{◌≡◌, ℕ, T}
use Rattle.tables.specs.Words.{Pair}
use Rattle.tables.specs.Terms.{Term, symbols}
use Rattle.tables.specs.declared.Literal.{Literal}
use Rattle.tables.specs.declared.Side.TheVariants.{A, B}
use Rattle.tables.specs.Colours.{occurs_in}
use Rattle.tables.specs.Interpretations.{Interpretation, value, Satisfies}
use Rattle.clauses.specs.Clauses.{Clause, Conclusion, equals, differs, falsum}

-- the equality of a pair is true
abbrev pub TrueEquality : (I : Interpretation) → List Term → Pair → Type 0
TrueEquality I table p = value I table p.left ≡ value I table p.right

abbrev pub TrueConclusion : (I : Interpretation) → List Term → Conclusion → Type 0
TrueConclusion I table (equals p) = TrueEquality I table p
TrueConclusion I table (differs p) = TrueEquality I table p → ⊥
TrueConclusion I table falsum = ⊥

-- a clause is true when its conclusion is, or some premise is not: premises imply conclusion
abbrev pub TrueClause : (I : Interpretation) → List Term → Clause → Type 0
TrueClause I table c =
    ((p : Pair) → Memᴰ p c.premises → TrueEquality I table p) → TrueConclusion I table c.conclusion

-- all clauses of a summary are true
abbrev pub TrueClauses : (I : Interpretation) → List Term → List Clause → Type 0
TrueClauses I table cs = (c : Clause) → Memᴰ c cs → TrueClause I table c

-- every symbol of the term occurs in an A literal and in a B literal
abbrev pub SharedTerm : List Term → List Literal → List Term → ℕ → Type 0
SharedTerm ts ls table t = (f : ℕ) → Memᴰ f (symbols table t) → T (occurs_in ts ls A f) × T (occurs_in ts ls B f)

abbrev pub SharedPair : List Term → List Literal → List Term → Pair → Type 0
SharedPair ts ls table p = SharedTerm ts ls table p.left × SharedTerm ts ls table p.right

abbrev pub SharedConclusion : List Term → List Literal → List Term → Conclusion → Type 0
SharedConclusion ts ls table (equals p) = SharedPair ts ls table p
SharedConclusion ts ls table (differs p) = SharedPair ts ls table p
SharedConclusion ts ls table falsum = Unit {0}

-- "use only shared symbols"
abbrev pub SharedClause : List Term → List Literal → List Term → Clause → Type 0
SharedClause ts ls table c =
    ((p : Pair) → Memᴰ p c.premises → SharedPair ts ls table p) × SharedConclusion ts ls table c.conclusion

-- demand 3 of a summary: "use only shared symbols, hold in every interpretation that satisfies A, and are never all true in one that satisfies B"
pub record Summarises (ts : List Term) (ls : List Literal) (table : List Term) (cs : List Clause) : Type 1 where
  pub shared : (c : Clause) → Memᴰ c cs → SharedClause ts ls table c
  pub follows_from_a : (I : Interpretation) → Satisfies I ts ls A → TrueClauses I table cs
  pub contradicts_b : (I : Interpretation) → Satisfies I ts ls B → TrueClauses I table cs → ⊥

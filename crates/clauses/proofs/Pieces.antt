-- Small laws of factors, ends and readings. The layers above use these and open no definition.
use mathlib.Core.Bool.{Bool, true, false, cond}
use mathlib.Core.List.Memᴰ
use mathlib.Core.List.{List, [], ◌∷◌, ◌++◌, map, flat_map, Memᴰ}
use mathlib.Core.Logic.{◌↔◌}
use mathlib.Core.Path.{◌≡◌, refl, sym, subst, ◌∙◌}
use Prim.Native.Nat.{ℕ}
use lib.Dec.{T}
use Rattle.tables.specs.Words.{Pair, pair, same_pair, any, keep, pairs_below}
use Rattle.tables.specs.Terms.{Term}
use Rattle.tables.specs.LiteralTable.{same_side}
use Rattle.tables.specs.declared.Literal.{Literal}
use Rattle.tables.specs.declared.Side.TheVariants.{A, B}
use Rattle.tables.specs.Colours.{colourable}
use Rattle.tables.proofs.Words.{passes, some_any, any_some, same_pair_eq, same_pair_self}
use Rattle.tables.proofs.Colours.{same_side_eq}
use Rattle.closure.specs.Graph.{Graph, Hop, Path, path}
use Rattle.clauses.specs.Clauses.{Clause, Conclusion, between, equals, differs, falsum}
use Rattle.clauses.specs.Factors.{Factor, alone, longer, in_front, factors}
use Rattle.clauses.specs.Reading.{Stretches, from_first, stretches, end_of, not_middle, clauses_in, read_a, read_between, summary}
use Rattle.clauses.specs.Records.{among_pairs, ascending, concluding, is_last, first_alone, clause_in_order, standing, clause_record, conclusion_record, records_of, clause_records}
use Rattle.clauses.proofs.Factors.{Alternate, last_one, other_next, factors_alternate}

-- ---- factors

-- an empty path has none
pub no_factor : {f : Factor} → Memᴰ f (factors []) → ⊥
unfolding factors
no_factor m = Memᴰ.not-nil m

-- a hop before an empty path is the only factor
pub alternate_alone : (h : Hop) → Alternate (alone h ∷ factors [])
unfolding factors
alternate_alone h = last_one

-- a hop before a path that begins in the other colour stands before factors of the other colour
pub alternate_front : (h g : Hop) (ρ : Path) → (h.colour ≡ g.colour → ⊥) → Alternate (alone h ∷ factors (g ∷ ρ))
unfolding factors in_front
alternate_front h g ρ d = pick (factors ρ) (factors_alternate (g ∷ ρ))
  where
    go : (f : Factor) (fs : List Factor) (b : Bool) → same_side g.colour f.colour ≡ b → Alternate (cond b (longer g f ∷ fs) (alone g ∷ f ∷ fs)) → Alternate (alone h ∷ cond b (longer g f ∷ fs) (alone g ∷ f ∷ fs))
    go f fs true e a = other_next (λ q. d (q ∙ sym (same_side_eq g.colour f.colour (passes (same_side g.colour f.colour) e)))) a
    go f fs false e a = other_next d a

    pick : (fs : List Factor) → Alternate (in_front g fs) → Alternate (alone h ∷ in_front g fs)
    pick [] a = other_next d last_one
    pick (f ∷ fs) a = go f fs (same_side g.colour f.colour) refl a

-- ---- where a path ends

-- an empty path ends where it begins
pub end_of_none : (v : ℕ) → end_of v [] ≡ v
unfolding end_of
end_of_none v = refl

-- any other ends where it ends behind its first hop
pub end_of_hop : (v : ℕ) (h : Hop) (π : Path) → end_of v (h ∷ π) ≡ end_of h.to π
unfolding end_of
end_of_hop v h π = refl

-- "not [middle]" of an empty stretch is false
pub not_middle_none : not_middle [] ≡ falsum
unfolding not_middle
not_middle_none = refl

-- that of any other says that its ends differ
pub not_middle_hop : (h : Hop) (π : Path) → not_middle (h ∷ π) ≡ differs (between h.from (end_of h.to π))
unfolding not_middle
not_middle_hop h π = refl

-- an equality is of no last kind
pub equals_kind : (k : Conclusion) (p : Pair) → k ≡ equals p → T (is_last k) → ⊥
unfolding is_last
equals_kind k p e h = subst (λ (x : Conclusion). T (is_last x)) e h

-- "not [middle]" is of one
pub middle_kind : (π : Path) → T (is_last (not_middle π))
unfolding not_middle is_last
middle_kind [] = tt
middle_kind (h ∷ π) = tt

-- ---- stretches

-- an empty path has empty ones
abbrev pub no_stretch : Stretches
no_stretch = record { before = []; middle = []; after = [] }

module _ (in_b : ℕ → Bool) where
  pub from_first_none : from_first in_b [] ≡ no_stretch
  unfolding from_first
  from_first_none = refl

  -- from the first vertex in B on, a hop is in the middle while such a vertex is still to come, and all that is left is after it else
  pub from_first_hop : (h : Hop) (π : Path) → from_first in_b (h ∷ π) ≡ cond (any (λ g. in_b g.to) (h ∷ π)) (record { before = []; middle = h ∷ (from_first in_b π).middle; after = (from_first in_b π).after }) (record { before = []; middle = []; after = h ∷ π })
  unfolding from_first
  from_first_hop h π = refl

  pub stretches_none : (u : ℕ) → stretches in_b u [] ≡ no_stretch
  unfolding stretches
  stretches_none u = refl

  -- before a vertex in B a hop is before the middle
  pub stretches_hop : (u : ℕ) (h : Hop) (π : Path) → stretches in_b u (h ∷ π) ≡ cond (in_b u) (from_first in_b (h ∷ π)) (record { before = h ∷ (stretches in_b h.to π).before; middle = (stretches in_b h.to π).middle; after = (stretches in_b h.to π).after })
  unfolding stretches
  stretches_hop u h π = refl

-- ---- records

-- of no clause the first is none
pub first_none : first_alone [] ≡ []
unfolding first_alone
first_none = refl

-- of some it is one
pub first_some : (c : Clause) (cs : List Clause) → first_alone (c ∷ cs) ≡ c ∷ []
unfolding first_alone
first_some c cs = refl

-- the records of the clauses as they stand: the first for each pair, ascending, and the first of the last kind
pub records_standing : (n : ℕ) (cs : List Clause) → clause_records n cs ≡ flat_map records_of (map (clause_in_order n) (flat_map (λ p. first_alone (keep (concluding p) cs)) (pairs_below n) ++ first_alone (keep (λ c. is_last c.conclusion) cs)))
unfolding clause_records standing
records_standing n cs = refl

-- a clause's records: its premises, and its conclusion
pub records_clause : (c : Clause) → records_of c ≡ map (clause_record 1) c.premises ++ (conclusion_record c.conclusion ∷ [])
unfolding records_of
records_clause c = refl

-- an equality as a conclusion is of kind 2
pub record_equals : (p : Pair) → conclusion_record (equals p) ≡ clause_record 2 p
unfolding conclusion_record
record_equals p = refl

-- a disequality is of kind 3
pub record_differs : (p : Pair) → conclusion_record (differs p) ≡ clause_record 3 p
unfolding conclusion_record
record_differs p = refl

-- false is of kind 4
pub record_falsum : conclusion_record falsum ≡ clause_record 4 (pair 0 0)
unfolding conclusion_record
record_falsum = refl

-- pairs in order are those of all pairs, ascending, that are among them
pub ascending_kept : (n : ℕ) (ps : List Pair) → ascending n ps ≡ keep (among_pairs ps) (pairs_below n)
unfolding ascending
ascending_kept n ps = refl

-- and the test says so
pub among_mem : (ps : List Pair) (p : Pair) → T (among_pairs ps p) ↔ Memᴰ p ps
unfolding among_pairs
among_mem ps p = (
  λ x. let s = any_some (λ q. same_pair p q) ps x in subst (λ (q : Pair). Memᴰ q ps) (sym (same_pair_eq p s.0 s.2)) s.1,
  λ m. some_any (λ q. same_pair p q) m (same_pair_self p),
)

-- ---- the two readings

-- the summary of a disequality is what is read between its sides
pub summary_read : (ts : List Term) (ls : List Literal) (table : List Term) (G : Graph) (l : Literal) → summary ts ls table G l ≡ read_between ts ls table G l.side l.left l.right
unfolding summary
summary_read ts ls table G l = refl

module _ (ts : List Term) (ls : List Literal) (table : List Term) (G : Graph) (s t : ℕ) where
  -- in B the path clauses of the path between the sides
  pub read_b : read_between ts ls table G B s t ≡ clauses_in ts ls table G (path G s t)
  unfolding read_between
  read_b = refl

  -- in A what its stretches give
  pub read_a_is : read_between ts ls table G A s t ≡ read_a ts ls table G (stretches (colourable ts ls B table) s (path G s t))
  unfolding read_between
  read_a_is = refl

-- The critical disequality is a record of kind 2 whose sides are joined, and no lower record is.
use Rattle.std.proofs.Common.{Some, None}
use mathlib.Core.Bool.{not, ◌&&◌}
use mathlib.Core.List.{List, Memᴰ}
use mathlib.Core.Path.{◌≡◌, refl, sym, subst}
use Prim.Native.Nat.{ℕ}
use lib.Dec.{T}
use lib.ListN.{length}
use Rattle.tables.specs.Words.{First, first_below}
use Rattle.tables.specs.LiteralTable.{is_equal}
use Rattle.tables.specs.declared.Literal.{Literal}
use Rattle.tables.specs.declared.Kind.{Kind}
use Rattle.tables.specs.declared.Kind.TheVariants.{Equal, Different}
use Rattle.tables.specs.declared.Side.TheVariants.{A}
use Rattle.tables.proofs.Words.{and_left, and_right, and_both, get_d_mem, mem_get_d, first_below_some, first_below_none}
use Rattle.closure.specs.Graph.{Graph, joined}
use Rattle.closure.proofs.Entailing.Classes.{Apart}
use Rattle.clauses.specs.Reading.{literal_at, contradicted, critical}

-- the test of a record
pub contradicted_by : (ls : List Literal) (G : Graph) (i : ℕ) → contradicted ls G i ≡ (not (is_equal (literal_at ls i).kind) && joined G (literal_at ls i).left (literal_at ls i).right)
unfolding contradicted
contradicted_by ls G i = refl

-- the critical disequality is the first that meets it
pub critical_by : (ls : List Literal) (G : Graph) → critical ls G ≡ first_below (contradicted ls G) (length ls)
unfolding critical
critical_by ls G = refl

-- a record of kind 2 whose sides are joined
pub record Critical (ls : List Literal) (G : Graph) (l : Literal) : Type 0 where
  pub stands : Memᴰ l ls
  pub differs : l.kind ≡ Different
  pub meets : T (joined G l.left l.right)

-- a kind that is not 1 is 2
not_equal : (k : Kind) → T (not (is_equal k)) → k ≡ Different
not_equal Equal h = absurd h
not_equal Different h = refl

-- what is found as the critical disequality is one
pub critical_found : (ls : List Literal) (G : Graph) (d : ℕ) → critical ls G ≡ Some d → Critical ls G (literal_at ls d)
unfolding critical contradicted
critical_found ls G d e =
    let first = first_below_some (contradicted ls G) (length ls) d e in
    let l = literal_at ls d in
    record {
      stands = get_d_mem ls d (record { side = A; kind = Equal; left = 0; right = 0 }) first.within;
      differs = not_equal l.kind (and_left (not (is_equal l.kind)) (joined G l.left l.right) first.such);
      meets = and_right (not (is_equal l.kind)) (joined G l.left l.right) first.such;
    }

-- "the lowest record of kind 2 whose sides are joined"
pub critical_first : (ls : List Literal) (G : Graph) (d : ℕ) → critical ls G ≡ Some d → First (λ i. T (contradicted ls G i)) (length ls) d
unfolding critical
critical_first ls G d e = first_below_some (contradicted ls G) (length ls) d e

-- where none is found, no disequality has its sides joined
pub critical_none : (ls : List Literal) (G : Graph) → critical ls G ≡ None → Apart ls G
unfolding critical contradicted
critical_none ls G e l m q j =
    let d : Literal = record { side = A; kind = Equal; left = 0; right = 0 } in
    let r = mem_get_d d m in
    first_below_none (contradicted ls G) (length ls) e r.0 r.1
    (subst (λ (x : Literal). T (not (is_equal x.kind) && joined G x.left x.right)) (sym r.2) (and_both (not (is_equal l.kind)) (joined G l.left l.right) (subst (λ (k : Kind). T (not (is_equal k))) (sym q) tt) j))

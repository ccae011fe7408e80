-- `inside` meets its contract: the loop keeps that the literals passed are marked, with all their parts, and nothing else.
use mathlib.Core.Bool.{Bool}
use mathlib.Core.List.{List}
use Prim.Native.Nat.{◌+◌}
use mathlib.Core.Path.{◌≡◌, sym, subst, ◌∙◌}
use native.Mathlib.Omega.{arith}
use Rattle.tables.specs.LiteralTable.{literal_count}
use Rattle.reading.specs.Marks.{Inside}
use Rattle.reading.proofs.Marks.{inside_none, inside_more, inside_same}
use Rattle.reading.proofs.Sides.{sides_small}
use Rattle.reading.proofs.colouring.Arguments.inside.Goals as goal
use Rattle.reading.proofs.colouring.Arguments.inside.Goals.{then-is_of, else-is_of}

pub loop-k-init : goal.loop-k-init
loop-k-init c = let a = c.args in inside_none a.self.now.rows.now a.self.now.arities.now a.literals.now a.side

pub mark-requires : goal.mark-requires
mark-requires c = let i = c.loop-k.invariant in
    record { within = (sides_small _ _ c.requires c.loop-k-test.true c.literal_at-l.ensures).0; sized = i.sized; low = c.args.self.now.lower; closed = i.closed }

pub mark-requires-then-is_of : goal.mark-requires-then-is_of
mark-requires-then-is_of c = let i = c.loop-k.invariant in
    let m = c.mark.ensures in
    record { within = (sides_small _ _ c.requires c.loop-k-test.true c.literal_at-l.ensures).1; sized = m.sized ∙ i.sized; low = c.args.self.now.lower; closed = m.closed }

pub loop-k-preserved : goal.loop-k-preserved
loop-k-preserved c = let a = c.args in
    let k = c.loop-k.k in
    let i = c.loop-k.invariant in
    let l = c.literal_at-l.result in
    let e = c.literal_at-l.ensures in
    let is : List Bool → Type 0 = Inside a.self.now.rows.now a.self.now.arities.now a.literals.now a.side (k + 1) in
    elim c.if-is_of.branch [
      | then-is_of w ↦ subst is (sym w.marks-is) (inside_more a.self.now.rows.now a.self.now.arities.now a.literals.now a.side k l e c.loop-k.marks w.mark.new.marks w.mark-then-is_of.new.marks (sym c.is_of.ensures ∙ w.if-is_of.true) i w.mark.ensures w.mark-then-is_of.ensures)
      | else-is_of w ↦ subst is (sym w.marks-is) (inside_same a.self.now.rows.now a.self.now.arities.now a.literals.now a.side k l e c.loop-k.marks (sym c.is_of.ensures ∙ w.if-is_of.false) i)
    ]

pub returns : goal.returns
returns c = let a = c.args in
    let e : c.loop-k.k ≡ literal_count a.literals.now = omega (arith, c.loop-k.auto.k-end, c.loop-k-test.false) in
    subst (λ n. Inside a.self.now.rows.now a.self.now.arities.now a.literals.now a.side n c.loop-k.marks) e c.loop-k.invariant

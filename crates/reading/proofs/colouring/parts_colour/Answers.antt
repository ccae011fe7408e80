-- `parts_colour` meets its contract: what was found is whether a term passed is marked and lacks a symbol that occurs in A, and one that occurs in B.
use mathlib.Core.Bool.{Bool, not, cond}
use mathlib.Core.Path.{ap₂, ◌∙◌}
use Prim.Native.Nat.{◌+◌}
use Rattle.tables.proofs.Records.{so_far, so_far_more, so_far_all}
use Rattle.reading.proofs.colouring.parts_colour.Goals as goal

pub loop-u-init : goal.loop-u-init
loop-u-init c = (so_far _ _, so_far _ _)

pub loop-u-preserved : goal.loop-u-preserved
loop-u-preserved c = let inv = c.loop-u.invariant in
    let taken = c.loop-u-test.true in
    (so_far_more _ _ _ _ inv.0 taken, so_far_more _ _ _ _ inv.1 taken)

pub returns : goal.returns
returns c = let inv = c.loop-u.invariant in
    let left = c.loop-u-test.false in
    c.colour_number.ensures ∙
    ap₂ (λ (x y : Bool). cond (not x) 1 0 + cond (not y) 2 0) (so_far_all _ _ _ _ inv.0 left) (so_far_all _ _ _ _ inv.1 left)

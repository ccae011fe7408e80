-- `colour` meets its contract: the marks are exactly the parts of the term.
use mathlib.Core.List.{List}
use lib.ListN.{get_or, length-replicate}
use mathlib.Core.Bool.{Bool, false, not, cond}
use mathlib.Core.Path.{◌≡◌, ap₂, ◌∙◌}
use Prim.Native.Nat.{◌+◌}
use Rattle.tables.specs.Words.{every}
use Rattle.tables.specs.Tests.{some_below}
use Rattle.tables.specs.Terms.{parts}
use Rattle.reading.specs.Marks.{marked_and_missing}
use Rattle.reading.proofs.Marks.{none_closed, all_parts}
use Rattle.reading.proofs.colouring.Arguments.colour.Goals as goal

pub mark-requires : goal.mark-requires
mark-requires c = record { within = c.requires; sized = length-replicate 256 false; low = c.args.self.now.lower; closed = none_closed 256 c.args.self.now.rows.now c.args.self.now.arities.now }

pub returns : goal.returns
returns c = λ ts d h small.
    let a = c.args in
    let marks = c.mark.new.marks in
    let each : (occurring : List Bool) → not (some_below (marked_and_missing marks occurring) (a.t + 1)) ≡ every (λ u. get_or occurring u false) (parts ts a.t) = λ occurring. all_parts a.self.now.rows.now a.self.now.arities.now c.args.self.now.lower ts d small marks occurring a.t h c.mark.ensures in
    c.parts_colour.ensures ∙ ap₂ (λ (x y : Bool). cond x 1 0 + cond y 2 0) (each a.in_a.now) (each a.in_b.now)

-- `place` meets its contract: the lower one is left.
use native.Mathlib.Omega.{arith}
use Rattle.marking.proofs.Squares.{between_ends}
use Rattle.marking.proofs.marks.place.Goals as goal

pub returns : goal.returns
returns c = omega (arith, between_ends c.args.u c.args.v, c.min.ensures, c.max.ensures)

-- `occurs` meets its contract: what was found is whether a term passed is inside and has the symbol.
use Rattle.tables.proofs.Records.{so_far, so_far_more, so_far_all}
use Rattle.reading.proofs.colouring.occurs.Goals as goal

pub loop-u-init : goal.loop-u-init
loop-u-init c = so_far _ _

pub loop-u-preserved : goal.loop-u-preserved
loop-u-preserved c = so_far_more _ _ _ _ c.loop-u.invariant c.loop-u-test.true

pub returns : goal.returns
returns c = so_far_all _ _ _ _ c.loop-u.invariant c.loop-u-test.false

-- `reading::earlier::had_other_arity` meets its contract. The invariant: what was found is whether a record passed has the symbol with another arity. The measure is what is left of them.
use Rattle.tables.proofs.Records.{so_far, so_far_more, so_far_all}
use Rattle.reading.proofs.earlier.had_other_arity.Goals as goal

pub loop-j-init : goal.loop-j-init
loop-j-init c = so_far _ _

pub loop-j-preserved : goal.loop-j-preserved
loop-j-preserved c = so_far_more _ _ _ _ c.loop-j.invariant c.loop-j-test.true

pub returns : goal.returns
returns c = so_far_all _ _ _ _ c.loop-j.invariant c.loop-j-test.false

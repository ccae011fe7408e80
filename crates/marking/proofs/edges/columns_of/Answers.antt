-- `marking::edges::columns_of` meets its contract: after the last record the columns hold all edges.
use Rattle.marking.proofs.Filling.{laid_all}
use Rattle.marking.proofs.edges.columns_of.Goals as goal

pub returns : goal.returns
returns c = laid_all _ _ _ _ c.loop-i-test.false c.loop-i.invariant

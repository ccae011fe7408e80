-- `conclude` meets its contract: three stretches are read, and the pass marks what they owe.
use mathlib.Core.Path.{◌∙◌}
use Rattle.summing.proofs.ClausesOut.{concluded}
use Rattle.summing.proofs.readings.conclude.Goals as goal

pub returns : goal.returns
returns c = let o = c.want_outer.ensures in
    (c.settle.ensures.same ∙ o.after.same ∙ o.before.same ∙ c.want_along.ensures.same, concluded _ _ c.args.pairs.now _ _ _ _ _ _ _ c.requires.clear c.none-marks.ensures c.want_along.ensures o c.settle.ensures)

-- `graphs::labels::relabel` meets its contract: the places passed are changed.
use Rattle.std.proofs.Common.{rules, arith}
use Rattle.graphs.proofs.Changing.{changing_set}
use Rattle.graphs.proofs.labels.relabel.Goals.{then-label-from, else-label-from}
use Rattle.graphs.proofs.labels.relabel.Goals as goal

pub loop-label-preserved : goal.loop-label-preserved
loop-label-preserved c =
    changing_set _ _ _ _ _ c.loop-label.invariant (omega (arith, c.told-labels))
    (elim c.if-label-from.branch [
      | then-label-from w ↦ search rules
      | else-label-from w ↦ search rules
    ])

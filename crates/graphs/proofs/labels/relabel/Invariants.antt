-- `graphs::labels::relabel`: the places passed are changed.
use Rattle.std.proofs.Common.{cond, eqb}
use Rattle.graphs.proofs.Changing.{Changing}
use Rattle.graphs.proofs.labels.relabel.Given as goal

abbrev pub invariant-loop-label : goal.invariant-loop-label
invariant-loop-label l = Changing (λ x. cond (eqb x l.from) l.to x) l.initial.labels l.label-index l.labels

-- `graphs::labels::own_labels` meets its contract: each place holds its own number.
use Rattle.std.proofs.Common.{rules}
use Rattle.graphs.proofs.LabelArray.{own_labels}
use Rattle.graphs.proofs.labels.own_labels.Goals as goal

pub returns : goal.returns
returns c = own_labels c.from_fn.result (search rules) (λ i h. let w = c.from_fn.ensures.items.at i 0 h in search (rules, w.2))

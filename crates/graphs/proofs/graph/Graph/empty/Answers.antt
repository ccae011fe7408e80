-- `graphs::graph::Graph::empty` meets its contract: no edge is in use.
use Rattle.std.proofs.Common.{rules}
use Rattle.graphs.specs.Layout.{last_first, edges_of}
use Rattle.graphs.proofs.graph.Graph.empty.Goals as goal

pub returns : goal.returns
unfolding edges_of last_first
returns c = search rules

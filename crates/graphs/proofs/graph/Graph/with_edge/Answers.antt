-- `graphs::graph::Graph::with_edge` meets its contract: the edge is stored in the first free place.
use Rattle.std.proofs.Common.{rules, arith, ◌≡◌, refl, length}
use Rattle.graphs.specs.Layout.{no_edge, edges_of}
use Rattle.graphs.proofs.Numbered.{struct_length, last_first_more}
use Rattle.graphs.proofs.graph.Graph.with_edge.Goals as goal

pub returns : goal.returns
unfolding edges_of
returns c = let h : length c.args.self.edges ≡ 510 = search (rules, struct_length) in (last_first_more no_edge c.args.self.count c.args.self.edges c.args.e (omega arith), refl, refl)

-- `graphs::rooting::rooted` meets its contract: every pass but the last reaches more of the 511 vertices, and after the last no edge leads on.
use Rattle.std.proofs.Common.{arith}
use Rattle.graphs.specs.Layout.{edges_of}
use Rattle.graphs.proofs.Rooted.{positives_length, all_rooted}
use Rattle.graphs.proofs.rooting.rooted.Goals as goal

pub loop-smaller : goal.loop-smaller
loop-smaller c = omega (arith, c.pass.ensures.1 c.loop-test.true, positives_length c.pass.new.self.rank, c.pass.ensures.0.long)

pub returns : goal.returns
returns c = let p = c.pass.ensures in all_rooted (edges_of c.args.graph.now) _ c.requires.1 p.0 (p.2 c.loop-test.false)

-- `write_with` meets its contract: the path between the sides is cut at its middle stretch, what the clauses conclude is marked, and then all is written.
use native.Mathlib.Omega.{arith}
use lib.ListN.{length-replicate}
use mathlib.Core.Bool.{false}
use Rattle.summing.proofs.Summing.{sides_asked, sides_within}
use Rattle.summing.proofs.BothSides.{cut_placed}
use Rattle.summing.proofs.summary.write_with.Goals as goal

pub path-path-requires : goal.path-path-requires
path-path-requires g c = sides_asked _ _ _ _ _ c.requires.asking_some.1 c.requires.asking_some.0

pub of-cut-requires : goal.of-cut-requires
of-cut-requires g c = sides_within _ _ _ _ _ c.path-path.result c.path-path.ensures c.requires.asking_some.0

pub conclude-rows-requires-clause-in_place : goal.conclude-rows-requires-clause-in_place
conclude-rows-requires-clause-in_place g c =
    cut_placed _ _ _ _ _ c.args.side _ c.path-path.result c.of-cut.ensures.0 c.path-path.ensures c.requires.asking_some.0 c.of-cut.ensures.1 _ (omega (arith, c.requires.rows, length-replicate g.row.MARKS false))

-- `engine::forest::places` meets its contract. The invariant: the counts of the edges passed stand under their numbers.
use Rattle.std.proofs.Common.{false, cond, get_or}
use Rattle.marking.proofs.Filling.{Filled}
use Rattle.engine.proofs.forest.places.Given as goal

abbrev pub invariant-loop-i : goal.invariant-loop-i
invariant-loop-i l = Filled 0 510 (λ k. cond (get_or l.edges.derived k false) (get_or l.arities (get_or l.edges.lefts k 0) 0) 0) l.i l.places

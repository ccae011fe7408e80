-- `engine::forest::lay_parents` meets its contract. The invariant: the fields passed stand in their places.
use Rattle.marking.proofs.Filling.{Filled}
use Rattle.engine.specs.Ending.{parent_at}
use Rattle.engine.proofs.forest.lay_parents.Given as goal

abbrev pub invariant-loop-k : goal.invariant-loop-k
invariant-loop-k l = Filled 0 4080 (parent_at l.rows l.edges.lefts l.edges.rights) l.k l.parents

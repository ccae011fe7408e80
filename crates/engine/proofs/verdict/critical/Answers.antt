-- `engine::verdict::critical` meets its contract: the search goes over the records by the test of the definition.
use Rattle.std.proofs.Common.{refl, rules}
use Rattle.tables.proofs.Searches.{found_first}
use Rattle.engine.specs.Ending.{met_by}
use Rattle.engine.proofs.verdict.critical.Goals as goal

pub returns : goal.returns
returns c = found_first (met_by c.args.literals.now c.args.labels.now) _ _ _ _ c.find.ensures.ran refl (λ x b q k. search rules)

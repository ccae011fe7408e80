-- `reading::earlier::equals_earlier` meets its contract: some record before is the same.
use Rattle.std.proofs.Common.{refl, rules}
use Rattle.tables.specs.Tests.{equal_records, equals_earlier}
use Rattle.tables.proofs.Searches.{found_some}
use Rattle.reading.proofs.earlier.equals_earlier.Goals as goal

pub returns : goal.returns
unfolding equals_earlier
returns c = found_some (equal_records c.args.terms.now c.args.k) _ _ _ _ c.any.ensures.ran refl (λ x b q k. search rules)

-- `reading::earlier::repeated_row` meets its contract: what is found is the first record that equals an earlier one.
use Rattle.std.proofs.Common.{refl, rules}
use Rattle.tables.specs.Checks.{repeated_row}
use Rattle.tables.specs.Tests.{equals_earlier}
use Rattle.tables.proofs.Searches.{found_first}
use Rattle.reading.proofs.earlier.repeated_row.Goals as goal

pub returns : goal.returns
unfolding repeated_row
returns c = found_first (equals_earlier c.args.terms.now) _ _ _ _ c.find.ensures.ran refl (λ x b q k. search rules)

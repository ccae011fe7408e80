-- `reading::literal_table::literal_row` meets its contract: what is found is the first record that breaks row 6.
use Rattle.std.proofs.Common.{refl, rules}
use Rattle.tables.specs.Tests.{breaks_literal}
use Rattle.tables.proofs.Searches.{found_first}
use Rattle.reading.proofs.literal_table.literal_row.Goals as goal

pub returns : goal.returns
returns c = found_first (breaks_literal c.args.terms c.args.literals.now) _ _ _ _ c.find.ensures.ran refl (λ x b q k. search rules)

-- `reading::term_table::layout_row` meets its contract: what is found is the first record that breaks its layout.
use Rattle.std.proofs.Common.{refl, rules}
use Rattle.tables.specs.Checks.{layout_row}
use Rattle.tables.specs.Tests.{breaks_layout}
use Rattle.tables.proofs.Searches.{found_first}
use Rattle.reading.proofs.term_table.layout_row.Goals as goal

pub returns : goal.returns
unfolding layout_row
returns c = found_first (breaks_layout c.args.terms.now) _ _ _ _ c.find.ensures.ran refl (λ x b q k. search rules)

-- `reading::term_table::arguments_wrong` meets its contract: one of the four fields is wrong.
use Rattle.std.proofs.Common.{refl, rules, ◌||◌}
use Rattle.tables.specs.Tests.{not_lower, unused_not_zero}
use Rattle.tables.proofs.Searches.{found_some}
use Rattle.reading.proofs.term_table.arguments_wrong.Goals as goal

pub returns : goal.returns
returns c = found_some (λ j. not_lower c.args.k c.args.r.now j || unused_not_zero c.args.r.now j) _ _ _ _ c.any.ensures.ran refl (λ x b q k. search rules)

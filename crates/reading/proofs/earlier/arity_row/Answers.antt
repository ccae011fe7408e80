-- `reading::earlier::arity_row` meets its contract: by the columns, what is found is the first record whose symbol had another arity.
use Rattle.std.proofs.Common.{refl, rules}
use Rattle.tables.specs.Checks.{arity_row}
use Rattle.tables.specs.Tests.{had_other_arity}
use Rattle.tables.proofs.Searches.{found_first}
use Rattle.reading.proofs.Keys.{arity_by_columns}
use Rattle.reading.proofs.earlier.arity_row.Goals as goal

pub returns : goal.returns
unfolding arity_row
returns c = found_first (had_other_arity c.args.terms.now) _ _ _ _ c.find.ensures.ran refl (λ x b q k. (search rules, λ h. arity_by_columns _ _ h c.requires _ _ _ c.term_words-symbols.ensures c.term_bytes-arities.ensures (search rules)))

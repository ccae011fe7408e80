-- `reading::earlier::equal_records` meets its contract. The two byte strings compared are the two records.
use mathlib.Core.Path.{ap₂, ◌∙◌}
use Rattle.tables.specs.Words.{same}
use Rattle.tables.specs.Tests.{equal_records}
use Rattle.tables.proofs.Searches.{equal_lists}
use Rattle.reading.proofs.earlier.equal_records.Goals as goal

pub returns : goal.returns
unfolding equal_records
returns c = c.eq.ensures ∙ equal_lists _ _ ∙ ap₂ same c.record.ensures.0 c.record-2.ensures.0

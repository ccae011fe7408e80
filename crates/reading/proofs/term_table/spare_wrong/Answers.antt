-- `reading::term_table::spare_wrong` meets its contract. The tests are those of the definition.
use mathlib.Core.Bool.{or_assoc, or-false}
use Rattle.tables.specs.Words.{any}
use Rattle.tables.specs.Tests.{spare_wrong}
use Rattle.reading.proofs.term_table.spare_wrong.Goals as goal

pub returns : goal.returns
unfolding spare_wrong any
returns c = simp (or_assoc, or-false)

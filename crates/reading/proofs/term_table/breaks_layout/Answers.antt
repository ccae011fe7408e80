-- `reading::term_table::breaks_layout` meets its contract. The two tests of an argument field, over all fields at once, are the tests of the definition one after the other.
use mathlib.Core.Bool.{◌||◌, or_assoc}
use Rattle.tables.specs.Tests.{arity_wrong, spare_wrong, not_lower, unused_not_zero, breaks_layout, some_below}
use Rattle.tables.proofs.Records.{some_either}
use Rattle.reading.proofs.term_table.breaks_layout.Goals as goal

pub returns : goal.returns
unfolding breaks_layout arity_wrong
returns c = let k = c.args.k in
    let r = c.record-r.result.now in
    cc (
      some_either (not_lower k r) (unused_not_zero r) 4,
      or_assoc (arity_wrong r || spare_wrong r) (some_below (not_lower k r) 4) (some_below (unused_not_zero r) 4),
    )

-- `reading::earlier::record_keys` meets its contract: each place holds the key of its record.
use Rattle.std.proofs.Common.{rules}
use Rattle.tables.specs.TermTable.{term_record}
use Rattle.reading.specs.Keys.{record_key, record_keys}
use Rattle.reading.proofs.earlier.record_keys.Goals as goal

pub returns : goal.returns
unfolding record_keys
returns c = c.filled.ensures (λ k. record_key (term_record c.args.terms.now k)) (λ k x h e. search rules)

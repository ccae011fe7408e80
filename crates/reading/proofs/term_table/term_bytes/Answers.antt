-- `reading::term_table::term_bytes` meets its contract: each place holds the byte of its record.
use Rattle.std.proofs.Common.{rules}
use Rattle.tables.specs.Bytes.{byte_at}
use Rattle.tables.specs.TermTable.{term_record}
use Rattle.reading.proofs.term_table.term_bytes.Goals as goal

pub returns : goal.returns
returns c = c.filled.ensures (λ k. byte_at (term_record c.args.terms.now k) c.args.at) (λ k x h e. search rules)

-- `reading::arguments::rows` meets its contract: each place holds the row of its record.
use Rattle.std.proofs.Common.{rules}
use Rattle.tables.specs.TermTable.{term_record, row_of}
use Rattle.tables.specs.Read.{argument_rows}
use Rattle.reading.proofs.arguments.rows.Goals as goal

pub returns : goal.returns
unfolding argument_rows
returns c = c.filled.ensures (λ k. row_of (term_record c.args.terms.now k)) (λ k x h e. search rules)

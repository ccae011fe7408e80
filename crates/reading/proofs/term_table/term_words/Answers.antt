-- `reading::term_table::term_words` meets its contract: each place holds the number of its record.
use Rattle.tables.specs.Bytes.{word_at}
use Rattle.tables.specs.TermTable.{term_record}
use Rattle.reading.proofs.term_table.term_words.Goals as goal

pub returns : goal.returns
returns c = c.filled.ensures (λ k. word_at (term_record c.args.terms.now k) c.args.at) (λ k x h e. cc)

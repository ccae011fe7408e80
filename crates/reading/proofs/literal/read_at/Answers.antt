-- `reading::literal::read_at` meets its contract: each field is read at its own offset of the record.
use Rattle.reading.proofs.literal.read_at.Goals as goal

pub returns : goal.returns
returns c = cc

-- `engine::answers::consistent` meets its contract.
use Rattle.engine.proofs.Answering.{consistent_short, consistent_room}
use Rattle.engine.proofs.answers.consistent.Goals as goal

pub returns-then-partition-tables : goal.returns-then-partition-tables
returns-then-partition-tables c added clauses = consistent_short _ _ _ (record { partition = _; added = added; clauses = clauses }) c.if-partition-tables.true

pub returns : goal.returns
returns c added clauses = consistent_room _ _ _ (record { partition = _; added = added; clauses = clauses }) c.if-partition-tables.false _ c.write_partition.ensures

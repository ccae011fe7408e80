-- `engine::answers::inconsistent` meets its contract.
use Rattle.std.proofs.Common.{arith}
use Rattle.engine.proofs.AddedRecords.{all_terms, all_fit}
use Rattle.engine.proofs.Answering.{added_short, clauses_short, both_room}
use Rattle.engine.proofs.answers.inconsistent.Goals as goal

pub overflow_sub-count : goal.overflow_sub-count
overflow_sub-count c = omega (arith, all_terms _ _ c.requires.0.ends)

pub returns-then-added-count : goal.returns-then-added-count
returns-then-added-count c w e partition = added_short _ _ _ w (record { partition = partition; added = _; clauses = _ }) c.if-added-count.true

pub clause_records-records-requires : goal.clause_records-records-requires
clause_records-records-requires c = (_, c.requires.0, c.requires.1)

pub returns-then-room-records : goal.returns-then-room-records
returns-then-room-records c w e partition = let written = c.clause_records-records.ensures _ w e in
    clauses_short _ _ _ w (record { partition = partition; added = _; clauses = _ }) c.if-added-count.false _ written.counted c.if-room-records.true _
    (written.kept (omega (arith, written.counted, c.if-room-records.true)))

pub write_added-requires : goal.write_added-requires
write_added-requires c = let w = c.requires.0.ends in
    (omega (arith, all_terms _ _ w), all_fit _ _ w, c.if-added-count.false)

pub returns : goal.returns
returns c w e partition = let written = c.clause_records-records.ensures _ w e in
    both_room _ _ _ w (record { partition = partition; added = _; clauses = _ }) c.if-added-count.false _ written.counted c.if-room-records.false _ _
    c.write_added.ensures
    (written.bytes (omega (arith, written.counted, c.if-room-records.false)))

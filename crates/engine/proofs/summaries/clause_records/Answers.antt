-- `engine::summaries::clause_records` meets its contract: the clause layer is handed the last graph and the sides of the record, and reads them.
use Rattle.std.proofs.Common.{arith}
use Rattle.closure.specs.Steps.{table_of}
use Rattle.engine.specs.Ending.{terms_in, literals_in}
use Rattle.engine.proofs.AddedRecords.{all_fit}
use Rattle.engine.proofs.LastState.{decided_within, asking_of, written_of}
use Rattle.engine.proofs.summaries.clause_records.Goals as goal

pub drawn-drawing-requires : goal.drawn-drawing-requires
drawn-drawing-requires c = (c.requires.0, c.requires.1.ends)

pub literal_at-l-requires : goal.literal_at-l-requires
literal_at-l-requires c = omega (arith, decided_within _ _ _ c.requires.1 _ c.requires.2)

pub overflow_cast-end : goal.overflow_cast-end
overflow_cast-end c = omega (arith, all_fit _ _ c.requires.1.ends)

pub write-requires : goal.write-requires
write-requires c =
    let w = c.requires.1 in
    let ts = terms_in w.ends.from in
    ((ts, literals_in w.ends.from, table_of ts w.ends.state, w.ends.state.graph, asking_of _ _ _ w _ c.requires.2 _ c.literal_at-l.ensures _ (c.drawn-drawing.ensures _ w.ends)), all_fit _ _ w.ends)

pub returns : goal.returns
returns c t w e =
    let read = c.literal_at-l.ensures in
    written_of _ _ _ w _ e _ read _ _ _ (c.write.ensures.records _ _ _ _ (asking_of _ _ _ w _ e _ read _ (c.drawn-drawing.ensures _ w.ends)))

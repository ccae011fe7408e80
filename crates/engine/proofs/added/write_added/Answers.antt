-- `engine::added::write_added` meets its contract. The invariant: the records of the terms passed are written.
use Rattle.std.proofs.Common.{refl, arith}
use Rattle.engine.specs.Ending.{record_bytes}
use Rattle.engine.proofs.Writing.{written_none, written_more, written_all}
use Rattle.engine.proofs.added.write_added.Goals as goal

pub loop-i-init : goal.loop-i-init
loop-i-init c = written_none _ _

pub loop-i-preserved : goal.loop-i-preserved
unfolding record_bytes
loop-i-preserved c = written_more 16 _ (λ k. refl) _ _ _ _ _ c.loop-i.invariant c.put.ensures c.term_record-record.ensures

pub returns : goal.returns
returns c = written_all _ _ _ _ _ _ c.loop-i.invariant (omega arith) (omega arith) refl

-- `engine::classes::write_partition` meets its contract. The invariant: the class numbers of the terms passed are written.
use Rattle.std.proofs.Common.{refl, ap, ◌∙◌, arith}
use Rattle.tables.specs.Bytes.{word_bytes}
use Rattle.engine.proofs.Writing.{written_none, written_more, written_all}
use Rattle.engine.proofs.classes.write_partition.Goals as goal

pub loop-i-init : goal.loop-i-init
loop-i-init c = written_none _ _

pub loop-i-preserved : goal.loop-i-preserved
loop-i-preserved c = written_more 2 _ (λ k. refl) _ _ _ _ _ c.loop-i.invariant c.put.ensures (c.word-class.ensures ∙ ap word_bytes c.class_number.ensures)

pub returns : goal.returns
returns c = written_all _ _ _ _ _ _ c.loop-i.invariant (omega arith) (omega arith) refl

-- `engine::classes::write_partition` meets its contract. The invariant: the class numbers of the terms passed are written.
use Rattle.tables.specs.Bytes.{word_bytes}
use Rattle.engine.specs.Ending.{class_by}
use Rattle.engine.proofs.Writing.{Written}
use Rattle.engine.proofs.classes.write_partition.Given as goal

abbrev pub invariant-loop-i : goal.invariant-loop-i
invariant-loop-i l = Written (λ k. word_bytes (class_by l.used l.labels l.n k)) l.i l.initial.partition l.partition

-- `engine::added::write_added` meets its contract. The invariant: the records of the terms passed are written.
use Rattle.engine.specs.Ending.{record_in}
use Rattle.engine.proofs.Writing.{Written}
use Rattle.engine.proofs.added.write_added.Given as goal

abbrev pub invariant-loop-i : goal.invariant-loop-i
invariant-loop-i l = Written (record_in l.given l.end) l.i l.initial.added l.added

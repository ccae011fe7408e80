-- `files::put` meets its contract: a write that went on moved at least one byte, and no more than there was room for, and one that did not moved none.
use Rattle.std.proofs.Common.{arith}
use Rattle.files.proofs.Following.{some_written}
use Rattle.files.proofs.Moving.{written}
use Rattle.files.proofs.put.Goals as goal

pub loop-done-preserved-in-On : goal.loop-done-preserved-in-On
loop-done-preserved-in-On g c =
    let h = some_written _ _ _ _ _ c.write-called.ensures.bound c.in-On.ensures in
    record {
      within = omega arith;
      borne = omega arith;
      written = written _ _ _ _ _ _ _ _ c.in-On.ensures c.write-called.ensures.bound c.loop-done.invariant.written c.write-called.ensures.bytes;
    }

pub loop-done-preserved : goal.loop-done-preserved
loop-done-preserved g c =
    record {
      within = omega arith;
      borne = omega arith;
      written = written _ _ _ _ _ _ _ _ c.in-Again.ensures c.write-called.ensures.bound c.loop-done.invariant.written c.write-called.ensures.bytes;
    }

pub returns-in-Stop-clause-written : goal.returns-in-Stop-clause-written
returns-in-Stop-clause-written g c = written _ _ _ _ _ _ _ _ c.in-Stop.ensures c.write-called.ensures.bound c.loop-done.invariant.written c.write-called.ensures.bytes

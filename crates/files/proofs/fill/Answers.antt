-- `files::fill` meets its contract: a read that went on moved at least one byte, and no more than there was room for, and one that did not moved none.
use Rattle.std.proofs.Common.{arith, rules, length, ◌-◌, ◌≡◌, ◌∙◌}
use Rattle.files.proofs.Following.{some_read, part_length}
use Rattle.files.proofs.Moving.{came, stop}
use Rattle.files.proofs.fill.Goals as goal

pub loop-done-preserved-in-On : goal.loop-done-preserved-in-On
loop-done-preserved-in-On g c =
    let h = some_read _ _ _ _ _ c.read-called.ensures.bound c.in-On.ensures in
    let l = part_length c.loop-done.buffer c.loop-done.done in
    record {
      within = search rules;
      borne = omega arith;
      bytes = came _ _ _ c.loop-done.buffer c.read-called.new.buf _ _ _ _ _ c.in-On.ensures (omega arith) c.read-called.ensures.bound c.loop-done.invariant.bytes c.read-called.ensures.bytes;
    }

pub loop-done-preserved : goal.loop-done-preserved
loop-done-preserved g c =
    record {
      within = search rules;
      borne = omega arith;
      bytes = came _ _ _ c.loop-done.buffer c.read-called.new.buf _ _ _ _ _ c.in-Again.ensures (omega arith) c.read-called.ensures.bound c.loop-done.invariant.bytes c.read-called.ensures.bytes;
    }

pub returns-in-Stop-clause-bytes : goal.returns-in-Stop-clause-bytes
returns-in-Stop-clause-bytes g c =
    let l : length c.read-called.new.buf ≡ length c.loop-done.buffer - c.loop-done.done = c.read-called.auto.buf ∙ part_length c.loop-done.buffer c.loop-done.done in
    stop _ _ _ c.loop-done.buffer c.read-called.new.buf _ _ _ _ _ c.in-Stop.ensures (omega arith) (omega arith) c.read-called.ensures.bound c.loop-done.invariant.bytes c.read-called.ensures.bytes

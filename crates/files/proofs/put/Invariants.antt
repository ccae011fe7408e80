-- The loop of `files::put`: no more bytes went through than there are, at most 1,000 interrupted calls are still borne, and the writer holds what
-- went through. The measure: each byte to come counts for as many interrupted calls, and one call more.
use Rattle.std.proofs.Common.{length, take, ◌-◌, ◌≤◌, ◌+◌, ◌*◌}
use Rattle.std.specs.Io.KnownBytes.{Appends}
use Rattle.files.proofs.put.Given as goal

abbrev pub invariant-loop-done : goal.invariant-loop-done
invariant-loop-done g l = record {
  within : l.done ≤ length l.bytes;
  borne : l.left ≤ 1000;
  written : Appends (g.W.Write.contents l.initial.to) (g.W.Write.contents l.to) (take l.done l.bytes);
}

abbrev pub decreases-loop-done : goal.decreases-loop-done
decreases-loop-done g l = 1001 * (length l.bytes - l.done) + l.left

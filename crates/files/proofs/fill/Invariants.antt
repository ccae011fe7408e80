-- The loop of `files::fill`: no more bytes went through than the buffer has, at most 1,000 interrupted calls are still borne, and what went through
-- are the reader's first bytes. The measure: each byte to come counts for as many interrupted calls, and one call more.
use Rattle.std.proofs.Common.{length, take, ◌-◌, ◌≤◌, ◌+◌, ◌*◌}
use Rattle.std.specs.Io.KnownBytes.{Consumes}
use Rattle.files.proofs.fill.Given as goal

abbrev pub invariant-loop-done : goal.invariant-loop-done
invariant-loop-done g l = record {
  within : l.done ≤ length l.buffer;
  borne : l.left ≤ 1000;
  bytes : Consumes (g.R.Read.remaining l.initial.from) (g.R.Read.remaining l.from) (take l.done l.buffer);
}

abbrev pub decreases-loop-done : goal.decreases-loop-done
decreases-loop-done g l = 1001 * (length l.initial.buffer - l.done) + l.left

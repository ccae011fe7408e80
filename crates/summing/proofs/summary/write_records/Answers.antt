-- `write_records` meets its contract: what a reading puts into the small buffer is counted; then it is copied, or written again.
use Prim.Native.Nat.{ℕ}
use native.Mathlib.Omega.{arith}
use lib.ListN.{length-replicate}
use Rattle.summing.proofs.BothSides.{readable_some, in_place, reading_blank, summary_counted, summary_copied, summary_written}
use Rattle.summing.proofs.summary.write_records.Goals as goal

pub records_out-n-requires-clause-readable_some : goal.records_out-n-requires-clause-readable_some
records_out-n-requires-clause-readable_some c = readable_some _ _ _ _ _ _ _ _ c.requires.concluded_some.3

pub records_out-n-requires-clause-in_place : goal.records_out-n-requires-clause-in_place
records_out-n-requires-clause-in_place c = in_place _ _ _ _ _ _ _ _ c.requires.concluded_some.3 _ c.requires.vertices_bound.2.rows

pub returns-then-out-n : goal.returns-then-out-n
returns-then-out-n c colours s t w = summary_counted _ _ _ _ _ _ _ _ w _ _ _ _ _ c.records_out-n.ensures _ c.if-out-n.true

pub returns-then-n-kept : goal.returns-then-n-kept
returns-then-n-kept c colours s t w = summary_copied _ _ _ _ _ _ _ _ w _ _ _ _ _ c.records_out-n.ensures _ _ c.if-out-n.false (omega (arith, c.if-n-kept.true, length-replicate {A = ℕ} 2048 0)) c.copy_from_slice.ensures.after

pub records_out-requires-clause-readable_some : goal.records_out-requires-clause-readable_some
records_out-requires-clause-readable_some c = readable_some _ _ _ _ _ _ _ _ c.requires.concluded_some.3

pub records_out-requires-clause-in_place : goal.records_out-requires-clause-in_place
records_out-requires-clause-in_place c =
    in_place _ _ _ _ _ _ _ _ c.requires.concluded_some.3 _ (reading_blank _ _ _ _ _ _ _ _ c.requires.concluded_some.3 _ _ _ _ _ c.records_out-n.ensures c.requires.vertices_bound.2).rows

pub records_out-requires-clause-blank : goal.records_out-requires-clause-blank
records_out-requires-clause-blank c =
    reading_blank _ _ _ _ _ _ _ _ c.requires.concluded_some.3 _ _ _ _ _ c.records_out-n.ensures c.requires.vertices_bound.2

pub returns : goal.returns
returns c colours s t w = summary_written _ _ _ _ _ _ _ _ w _ _ _ _ _ c.records_out-n.ensures _ _ _ _ _ c.if-out-n.false c.records_out.ensures

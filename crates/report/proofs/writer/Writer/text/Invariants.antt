-- The invariant of `Writer::text`: the bytes passed are written.
use lib.ListN.{take}
use Rattle.report.specs.Writer.{Writes}
use Rattle.report.proofs.writer.Writer.text.Given as goal

abbrev pub invariant-loop-byte : goal.invariant-loop-byte
invariant-loop-byte l = Writes l.initial.self l.self (take l.byte-index l.bytes)

-- `reading::earlier::had_key` meets its contract. The invariant: what was found is whether a record passed has the key.
use Rattle.reading.specs.Keys.{same_key}
use Rattle.tables.proofs.Records.{SoFar}
use Rattle.reading.proofs.earlier.had_key.Given as goal

abbrev pub invariant-loop-j : goal.invariant-loop-j
invariant-loop-j l = SoFar (same_key l.keys l.k) l.k l.j l.found

-- `occurs` meets its contract: what was found is whether a term passed is inside and has the symbol.
use Rattle.reading.specs.Marks.{same_symbol_inside}
use Rattle.tables.proofs.Records.{SoFar}
use Rattle.reading.proofs.colouring.occurs.Given as goal

abbrev pub invariant-loop-u : goal.invariant-loop-u
invariant-loop-u l = SoFar (same_symbol_inside l.symbols l.inside l.t) l.terms l.u l.found

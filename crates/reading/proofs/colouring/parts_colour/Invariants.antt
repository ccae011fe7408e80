-- `parts_colour` meets its contract: what was found is whether a term passed is marked and lacks a symbol that occurs in A, and one that occurs in B.
use Rattle.reading.specs.Marks.{marked_and_missing}
use Rattle.tables.proofs.Records.{SoFar}
use Rattle.reading.proofs.colouring.parts_colour.Given as goal

abbrev pub invariant-loop-u : goal.invariant-loop-u
invariant-loop-u l = SoFar (marked_and_missing l.parts l.in_a) l.n l.u l.not_a × SoFar (marked_and_missing l.parts l.in_b) l.n l.u l.not_b

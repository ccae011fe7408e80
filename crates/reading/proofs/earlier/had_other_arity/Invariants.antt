-- `reading::earlier::had_other_arity` meets its contract. The invariant: what was found is whether a record passed has the symbol with another arity.
use Rattle.reading.specs.Keys.{other_arity_in}
use Rattle.tables.proofs.Records.{SoFar}
use Rattle.reading.proofs.earlier.had_other_arity.Given as goal

abbrev pub invariant-loop-j : goal.invariant-loop-j
invariant-loop-j l = SoFar (other_arity_in l.symbols l.arities l.k) l.k l.j l.found

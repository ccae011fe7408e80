-- `running::search::ends` meets its contract. The invariant: the ends of the terms passed are laid down.
use mathlib.Core.Path.{◌≡◌}
use lib.ListN.{length}
use Rattle.running.specs.Keys.{EndsOf}
use Rattle.running.proofs.search.ends.Given as goal

abbrev pub invariant-loop-t : goal.invariant-loop-t
invariant-loop-t l = (length l.all ≡ 1021) × EndsOf l.keys l.t l.all

-- `running::search::ends` meets its contract. The invariant: the ends of the terms passed are laid down.
use mathlib.Core.Path.{refl}
use lib.ListN.{length-set}
use Rattle.running.proofs.Ends.{no_ends, ends_more}
use Rattle.running.proofs.search.ends.Goals as goal

pub loop-t-init : goal.loop-t-init
loop-t-init c = (refl, no_ends _ 1021)

pub loop-t-preserved : goal.loop-t-preserved
loop-t-preserved c = let inv = c.loop-t.invariant in
    (simp length-set inv.0, ends_more _ _ _ inv.0 inv.1)

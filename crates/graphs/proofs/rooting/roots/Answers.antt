-- `graphs::rooting::roots` meets its contract: the numbers that are their own labels are marked, from the front.
use Rattle.std.proofs.Common.{arith, subst, ◌≡◌, ℕ}
use Rattle.graphs.proofs.Rooted.{Marking, marking_none, marking_growing}
use Rattle.graphs.proofs.rooting.roots.Goals as goal

pub loop-v-init : goal.loop-v-init
loop-v-init c = marking_none c.args.labels.now

pub returns : goal.returns
returns c =
    λ G q. let all : c.loop-v.v ≡ 511 = omega arith in marking_growing G _ q (subst (λ (n : ℕ). Marking c.args.labels.now c.loop-v.rank n) all c.loop-v.invariant)

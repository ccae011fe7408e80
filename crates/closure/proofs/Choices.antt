-- 01, "The library's own run": its three choices, each on small tables that show it. Another choice is allowed in demand 3 and summarises A as well,
-- so no law of all runs refuses it: here the run's last state would be another one. demands/proofs/Choices has the same tables as bytes.
use Rattle.std.proofs.Common.{Some}
use mathlib.Core.List.{[], ◌∷◌}
use mathlib.Core.Path.{◌≡◌, refl}
use Rattle.tables.specs.declared.Side.TheVariants.{A, B}
use Rattle.closure.specs.Graph.{basic, derived}
use Rattle.closure.specs.OwnRun.{own_run}
use Rattle.closure.proofs.Computing.{computing}
use Rattle.closure.proofs.Applied.{over, equality, disequality, edge}

-- "A derived edge is B where both ends are B-colourable, else A": f(k) and f(f(k)) are shared, and their edge is B.
-- Terms k, f(k), f(f(k)). A k=f(k), B f(k) different f(f(k)).
pub b_before_a : own_run (over 10 [] ∷ over 20 (0 ∷ []) ∷ over 20 (1 ∷ []) ∷ []) (equality A 0 1 ∷ disequality B 1 2 ∷ []) ≡
    Some (record { added = []; graph = edge derived B 1 2 ∷ edge basic A 0 1 ∷ [] })
unfolding computing
b_before_a = refl

-- "the first pair (s below t, smallest s, then smallest t)": once the basic steps are taken, a step can be taken between 1 and 4, 1 and 5, 2 and 3,
-- and the first one taken leaves no other. By smallest t or largest s it would be 2 and 3, by smallest s and largest t 1 and 5.
-- Terms k, f(k), .., f(f(f(f(f(k))))), each over the one before. A 0=3, A 0=4, A 0=5, A 1=2, B 1 different 4.
pub first_pair_is : own_run
    (over 10 [] ∷ over 20 (0 ∷ []) ∷ over 20 (1 ∷ []) ∷ over 20 (2 ∷ []) ∷ over 20 (3 ∷ []) ∷ over 20 (4 ∷ []) ∷ [])
    (equality A 0 3 ∷ equality A 0 4 ∷ equality A 0 5 ∷ equality A 1 2 ∷ disequality B 1 4 ∷ []) ≡
    Some (record { added = []; graph = edge derived B 1 4 ∷ edge basic A 1 2 ∷ edge basic A 0 5 ∷ edge basic A 0 4 ∷ edge basic A 0 3 ∷ [] })
unfolding computing
first_pair_is = refl

-- "the first met on the parent path from the argument of the end that is A-colourable only": f(b) stands before f(a), and the path from a to b goes
-- by m and then k, so the middle term is f(m). Met from b, or as the last or the lowest one, it would be f(k).
-- Terms k, m, b, f(b), a, f(a). A a=m, B m=k, B k=b, A k=f(a), B k different f(b).
pub first_met_is : own_run
    (over 10 [] ∷ over 11 [] ∷ over 15 [] ∷ over 20 (2 ∷ []) ∷ over 14 [] ∷ over 20 (4 ∷ []) ∷ [])
    (equality A 4 1 ∷ equality B 1 0 ∷ equality B 0 2 ∷ equality A 0 5 ∷ disequality B 0 3 ∷ []) ≡
    Some
    (record {
      added = over 20 (1 ∷ []) ∷ [];
      graph = edge derived B 3 6 ∷ edge derived A 5 6 ∷ edge basic A 0 5 ∷ edge basic B 0 2 ∷ edge basic B 1 0 ∷ edge basic A 4 1 ∷ [];
    })
unfolding computing
first_met_is = refl

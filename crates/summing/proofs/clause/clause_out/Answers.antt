-- `clause_out` meets its contract: the premises of the path between u and v are written, and then the pair.
use mathlib.Core.List.{List}
use mathlib.Core.Path.{◌≡◌, refl}
use Prim.Native.Nat.{ℕ, ◌<◌}
use native.Mathlib.Nat.{le_refl}
use native.Mathlib.Omega.{arith}
use Rattle.tables.specs.Words.{pair}
use Rattle.tables.specs.Terms.{Term}
use Rattle.tables.specs.declared.Literal.{Literal}
use Rattle.closure.specs.Graph.{Graph}
use Rattle.graphs.specs.declared.paths.Trail.{Trail}
use Rattle.graphs.specs.Trails.{Joining, TrailOf}
use Rattle.marking.specs.declared.drawing.Drawing.{Drawing}
use Rattle.marking.proofs.Owing.{PathRead, joins, path_read, path_rows}
use Rattle.summing.specs.Written.{Readable}
use Rattle.summing.proofs.ClausesOut.{clause_put}
use Rattle.summing.proofs.clause.clause_out.Goals as goal

-- the path between u and v, in each graph that the arrays hold
path_here : {arrays : Drawing} {n u v : ℕ} → u < v → v < n → (r : Trail) → ((G : Graph) → Joining arrays.forest u v G → TrailOf G u v r) → (ts : List Term) (ls : List Literal) (table : List Term) (G : Graph) (x : Readable arrays n (λ p. p ≡ pair u v) ts ls table G) → PathRead arrays ts ls table G x.drawn u v r
path_here {u = u} {v = v} l h r given ts ls table G x =
    let j = x.connected _ (l, h) refl in
    path_read _ _ _ _ _ x.drawn u v (omega (arith, l, h, x.terms)) j r (given G (joins _ _ _ _ _ x.drawn j))

pub path-path-requires : goal.path-path-requires
path-path-requires c = let s = c.requires.readable_some in
    let x = s.4 in
    let p = c.requires.u_lt_v in
    (omega (arith, p.0, p.1, p.2), omega (arith, p.1, p.2), (s.3, joins _ _ _ _ _ x.drawn (x.connected _ (p.0, p.1) refl)))

pub outer_premises-requires-clause-in_place : goal.outer_premises-requires-clause-in_place
outer_premises-requires-clause-in_place c = let p = c.requires in
    let s = p.readable_some in
    let b = p.u_lt_v in
    let g = path_here b.0 b.1 c.path-path.result c.path-path.ensures s.0 s.1 s.2 s.3 s.4 in
    record { within = g.within; forward = le_refl _; inside = le_refl _; rows = path_rows _ _ _ _ _ s.4.drawn _ (omega (arith, s.4.terms, p.blank.rows)) g }

pub returns-clause-put : goal.returns-clause-put
returns-clause-put c = let p = c.requires in
    let t = c.path-path in
    let b = p.u_lt_v in
    clause_put _ _ _ _ b.0 b.1 _ (λ ts ls table G x. (path_here b.0 b.1 t.result t.ensures ts ls table G x).trailed) _ _ _ _ c.outer_premises.ensures.put p.readable_some _ c.put.ensures.put

-- `reading::filling::filled` meets its contract. The invariant: the places passed hold what the closure says of them.
use native.Mathlib.Omega.{arith}
use Rattle.tables.proofs.Records.{filling_none, filling_more, filling_all}
use Rattle.reading.proofs.filling.filled.Goals as goal

pub loop-k-init : goal.loop-k-init
loop-k-init g c = λ says h. filling_none g.row.N c.args.filler says _

pub loop-k-preserved : goal.loop-k-preserved
loop-k-preserved g c = λ says h.
    let fits = c.min-k-end.ensures in
    filling_more _ _ says _ _ _ _ (omega (arith, fits)) (c.loop-k.invariant says h) c.loop-k-test.true (h c.loop-k.k c.f.result (omega (arith, fits, c.loop-k-test.true)) c.f.ensures)

pub returns : goal.returns
returns g c = λ says h. filling_all _ _ says _ _ _ _ c.min-k-end.ensures (c.loop-k.invariant says h) c.loop-k-test.false

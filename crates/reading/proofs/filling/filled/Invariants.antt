-- `reading::filling::filled` meets its contract. The invariant: the places passed hold what the closure says of them.
use Rattle.std.proofs.Common.{◌≡◌, ℕ, ◌<◌}
use Rattle.tables.proofs.Records.{Filling}
use Rattle.reading.proofs.filling.filled.Given as goal

abbrev pub invariant-loop-k : goal.invariant-loop-k
invariant-loop-k g l =
    (says : ℕ → g.row.T.Denot) →
    ((k : ℕ) (x : g.row.T.Denot) → k < l.fn.n → goal.F-post g l.f k x → x ≡ says k) →
    Filling g.row.N l.fn.filler says l.k-end l.k l.xs

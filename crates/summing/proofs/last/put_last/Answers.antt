-- `put_last` meets its contract, by the test whether the middle stretch is empty.
use mathlib.Core.Path.{sym, ap₂, ◌∙◌}
use Prim.Native.Nat.{ℕ}
use Rattle.tables.specs.Words.{pair}
use Rattle.clauses.specs.Records.{clause_record}
use Rattle.summing.proofs.RecordsOut.{record_as}
use Rattle.summing.proofs.ClausesOut.{last_different, last_empty}
use Rattle.summing.proofs.last.put_last.Goals as goal

pub returns-then-cut-clause-put : goal.returns-then-cut-clause-put
returns-then-cut-clause-put c =
    record_as (ap₂ (λ (l r : ℕ). clause_record 3 (pair l r)) c.min.ensures c.max.ensures ∙ sym (last_different c.args.cut.now c.if-cut.true)) c.put.ensures.put

pub returns-else-cut-clause-put : goal.returns-else-cut-clause-put
returns-else-cut-clause-put c = record_as (sym (last_empty c.args.cut.now c.if-cut.false)) c.put-else-cut.ensures.put

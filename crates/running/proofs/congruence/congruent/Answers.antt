-- `running::congruence::congruent` meets its contract: the fields all have the same labels, or one does not.
use Rattle.std.proofs.Common.{rules, refl, arith}
use Rattle.std.proofs.lemmas.Iterator.{cases_from_all, YieldsList-from_range}
use borrow.Author.Tests.{tests}
use lib.ListN.{get_or}
use mathlib.Core.List.{[]}
use Rattle.running.proofs.Agreeing.{SameLabel, fields_joined}
use Rattle.running.proofs.congruence.congruent.Goals as goal

pub returns : goal.returns
returns c G e =
    let pre = c.requires in
    let rows = c.args.rows in
    let same = SameLabel c.args.labels.now (get_or rows c.args.s []) (get_or rows c.args.t []) in
    fields_joined G _ e _ _ _ (pre.3 c.args.s pre.0) (pre.3 c.args.t pre.1) pre.2 _
    (cases_from_all _ _ _ same (λ k. ¬ (same k)) c.all.ensures.ran (YieldsList-from_range 0 _ c.args.arity refl (omega arith)) (λ x q k. search (rules, tests)) (λ x q k. search (rules, tests)))

-- `report::report` meets its contract: each verdict's text, written from the start of the buffer, is shown in it.
use borrow.Author.Rules.{rules}
use mathlib.Core.Path.{ap}
use Rattle.demands.specs.declared.Answer.{Answer}
use Rattle.report.specs.Text.{report_of}
use Rattle.report.proofs.Pages.{shown_as}
use Rattle.report.proofs.report.Goals as goal
use Rattle.report.proofs.report.Goals.{in-Consistent, in-Inconsistent, in-Refused}

pub returns : goal.returns
unfolding report_of
returns c =
    let a = c.args in
    let start = c.new-out.ensures in
    let of = λ (w : Answer). report_of w a.given a.partition.now a.added.now a.clauses.now in
    elim c.match-answer.branch [
      | in-Consistent w ↦ shown_as _ _ c.new-out.result c.match-answer.out (ap of w.in-Consistent.is) (search rules) start.bytes start.start (cc, cc)
      | in-Inconsistent w ↦ shown_as _ _ c.new-out.result c.match-answer.out (ap of w.in-Inconsistent.is) (search rules) start.bytes start.start (cc, cc)
      | in-Refused w ↦ shown_as _ _ c.new-out.result c.match-answer.out (ap of w.in-Refused.is) (search rules) start.bytes start.start (cc, cc)
    ]

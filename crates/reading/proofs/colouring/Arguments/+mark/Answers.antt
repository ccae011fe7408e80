-- The answers of `mark`: an argument is lower than its term and below 256, and what the loop marked is whole once all arguments were passed.
use Rattle.std.proofs.Common.{arith, ◌∙◌, ◌≡◌, subst, get_or}
use Rattle.reading.proofs.Marks.{MarkedUpTo, field_lower, up_more, up_all}
use Rattle.reading.proofs.colouring.Arguments.+mark.Goals as goal

pub mark-requires : goal.mark-requires
mark-requires t c =
    let p = c.requires in
    let lower = field_lower c.args.self.now.rows.now c.args.self.now.arities.now p.low c.args.t p.within c.loop-j.j c.loop-j-test.true in
    let i = c.loop-j.invariant in
    (omega (arith, lower, c.decreases), record { within = omega (arith, lower, p.within); sized = i.sized ∙ p.sized; low = p.low; closed = i.closed })

pub loop-j-preserved : goal.loop-j-preserved
loop-j-preserved t c =
    let p = c.requires in
    let a = c.args in
    up_more a.self.now.rows.now a.self.now.arities.now p.low a.t p.within c.loop-j.j a.marks.now c.loop-j.marks c.mark.new.marks c.loop-j-test.true c.loop-j.invariant c.mark.ensures

pub returns : goal.returns
returns t c =
    let p = c.requires in
    let a = c.args in
    let i = c.loop-j.invariant in
    let e : c.loop-j.j ≡ get_or a.self.now.arities.now a.t 0 = omega (arith, c.loop-j.auto.j-end, c.loop-j-test.false) in
    up_all a.self.now.rows.now a.self.now.arities.now p.low a.t p.within a.marks.now c.loop-j.marks (omega (arith, i.sized, p.sized)) (subst (λ n. MarkedUpTo a.self.now.rows.now a.self.now.arities.now a.t n a.marks.now c.loop-j.marks) e i)

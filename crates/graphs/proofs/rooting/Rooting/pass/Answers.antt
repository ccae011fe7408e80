-- `graphs::rooting::Rooting::pass` meets its contract: the edges looked at lead to nothing new, or something more was reached.
use Rattle.std.proofs.Common.{rules, arith, ◌≡◌, ℕ, subst, length, ◌∙◌}
use Rattle.graphs.specs.Layout.{newest_first, last_first, edges_of}
use Rattle.graphs.specs.Rooting.{Closed}
use Rattle.graphs.proofs.Rooted.{passing_same, rank_within, ends_here, reach_left, reach_right, reach_none}
use Rattle.graphs.proofs.rooting.Rooting.pass.Goals.{then-l-eq0+then-k-ne0, then-l-eq0+else-k-ne0, else-l-eq0+then-k-eq0, else-l-eq0+else-k-eq0}
use Rattle.graphs.proofs.rooting.Rooting.pass.Goals as goal

pub loop-i-init : goal.loop-i-init
unfolding edges_of last_first
loop-i-init c = record { growing = c.requires.2; least = omega arith; grew = λ e. search rules; closed = λ e h k. elim k [ ] }

pub bounds-self-left : goal.bounds-self-left
unfolding edges_of
bounds-self-left c = (ends_here c.args.graph.now.edges c.loop-i-test.true c.requires.1).0

pub bounds-self-right : goal.bounds-self-right
unfolding edges_of
bounds-self-right c = (ends_here c.args.graph.now.edges c.loop-i-test.true c.requires.1).1

pub reach-requires : goal.reach-requires
unfolding edges_of
reach-requires c =
    let ends = ends_here c.args.graph.now.edges c.loop-i-test.true c.requires.1 in
    (ends.0, ends.1, rank_within c.loop-i.invariant.growing ends.1)

pub reach-requires-then-k-eq0 : goal.reach-requires-then-k-eq0
unfolding edges_of
reach-requires-then-k-eq0 c =
    let ends = ends_here c.args.graph.now.edges c.loop-i-test.true c.requires.1 in
    (ends.1, ends.0, rank_within c.loop-i.invariant.growing ends.0)

pub loop-i-preserved : goal.loop-i-preserved
unfolding edges_of
loop-i-preserved c =
    let inv = c.loop-i.invariant in
    let more = c.loop-i-test.true in
    let ends = c.requires.1 in
    let long : (length c.loop-i.self.toward ≡ 511) × (length c.loop-i.self.by ≡ 511) = search rules in
    elim c.if-l-eq0.branch [
      | then-l-eq0+then-k-ne0 w ↦ passing_same (w.self-is ∙ w.reach.ensures) w.more-is (reach_left long inv more ends w.if-l-eq0.true w.if-k-ne0.true)
      | then-l-eq0+else-k-ne0 w ↦ passing_same w.self-is w.more-is (reach_none long inv more ends (λ k. omega (arith, w.if-k-ne0.false)) (λ k. omega (arith, w.if-k-ne0.false)))
      | else-l-eq0+then-k-eq0 w ↦ passing_same (w.self-is ∙ w.reach-then-k-eq0.ensures) w.more-is (reach_right long inv more ends w.if-l-eq0.false w.if-k-eq0.true)
      | else-l-eq0+else-k-eq0 w ↦ passing_same w.self-is w.more-is (reach_none long inv more ends (λ k. omega (arith, w.if-k-eq0.false)) (λ k. omega (arith, w.if-l-eq0.false)))
    ]

pub returns : goal.returns
unfolding edges_of
returns c =
    let p = c.loop-i.invariant in
    let q : c.loop-i.i ≡ c.args.graph.now.count = omega arith in
    (p.growing, p.grew, λ e. subst (λ (n : ℕ). Closed (newest_first n c.args.graph.now.edges) c.loop-i.self.rank) q (p.closed e))

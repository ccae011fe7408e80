-- `want_edges` meets its contract: the edges passed that have the colour are marked.
use Rattle.std.proofs.Common.{rules, length, ◌≡◌}
use mathlib.Core.Path.{sym, subst}
use Rattle.marking.proofs.Trails.{flags_agree, flags_not}
use Rattle.marking.proofs.Wanting.{EdgesUpTo, edges_mark, edges_skip, edges_all}
use Rattle.marking.proofs.marks.want_edges.Goals as goal
use Rattle.marking.proofs.marks.want_edges.Goals.{then-inb-e, else-inb-e}

pub loop-i-preserved : goal.loop-i-preserved
loop-i-preserved c =
    let low = c.requires.edges_low c.loop-i.i c.loop-i-test.true in
    let long : length c.loop-i.marks ≡ 510 = search rules in
    let u = c.loop-i.invariant in
    elim c.if-inb-e.branch [
      | then-inb-e w ↦ subst (EdgesUpTo _ _ _ _ _ _ _) (sym w.marks-is) (edges_mark _ _ _ _ _ _ _ _ c.loop-i-test.true low u long (flags_agree _ _ w.if-inb-e.true))
      | else-inb-e w ↦ subst (EdgesUpTo _ _ _ _ _ _ _) (sym w.marks-is) (edges_skip _ _ _ _ _ _ _ _ c.loop-i-test.true low u (flags_not _ _ w.if-inb-e.false))
    ]

pub returns : goal.returns
returns c = edges_all _ _ _ _ _ _ _ _ c.loop-i-test.false c.loop-i.invariant

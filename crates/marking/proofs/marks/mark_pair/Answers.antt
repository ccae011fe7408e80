-- `mark_pair` meets its contract: the place is the pair's, and the row is that of the lower vertex.
use mathlib.Core.Path.{sym, ◌∙◌}
use Rattle.marking.proofs.Squares.{between_ends, between_square, pair_added}
use Rattle.marking.proofs.marks.mark_pair.Goals as goal

pub returns : goal.returns
returns c =
    let p = c.requires in
    pair_added _ _ _ _ _ c.place.ensures (c.min.ensures ∙ sym (between_ends _ _).0) (between_square _ _ p.0 p.1) p.2 c.told-rows

-- `running::state::State::vertex_equal` meets its contract: what is found is the first vertex alike.
use Rattle.std.proofs.Common.{rules}
use Rattle.std.proofs.lemmas.Iterator.{first_from_Range}
use borrow.Author.Tests.{tests}
use Rattle.running.specs.Stepping.{Alike}
use Rattle.running.proofs.EqualVertex.{first_alike}
use Rattle.running.proofs.state.State.vertex_equal.Goals as goal

pub returns : goal.returns
returns c p = let alike = Alike c.args.self.now c.args.s c.args.row in
    first_alike p _ (first_from_Range _ _ _ _ alike (λ v. ¬ (alike v)) c.find.ensures.ran (λ v q k. search (rules, tests)) (λ v q k. search (rules, tests)))

-- `running::state::State::partner` meets its contract: what is found before the end of the residue is found at all, since no partner stands behind it.
use Rattle.std.proofs.Common.{rules}
use Rattle.std.proofs.lemmas.Iterator.{first_from_Range}
use Prim.Native.Nat.{◌%◌}
use borrow.Author.Tests.{tests}
use lib.Dec.{T}
use lib.ListN.{get_or}
use Rattle.tables.proofs.Words.{passes}
use Rattle.running.proofs.Ends.{not_passes}
use Rattle.running.specs.Keys.{tested}
use Rattle.running.proofs.Candidates.{no_candidate}
use Rattle.running.proofs.Ends.{before_end, next_from}
use Rattle.running.proofs.PairTest.{tested_candidate}
use Rattle.running.proofs.state.State.partner.Goals as goal

pub returns-then-keys-s-eq0 : goal.returns-then-keys-s-eq0
returns-then-keys-s-eq0 c G e k l h w = no_candidate _ _ _ _ c.if-keys-s-eq0.true (tested_candidate _ _ G _ _ w)

pub returns : goal.returns
returns c G e = let keys = c.args.keys.now in
    let s = c.args.s in
    let p = tested keys c.args.self.now G s in
    next_from p _ _ _ (c.requires.2.within (get_or keys s 0 % 1021)) (λ k h w. before_end _ _ _ _ _ k c.requires.2 h (tested_candidate _ _ G _ _ w)) _
    (first_from_Range _ _ _ _ (λ t. T (p t)) (λ t. ¬ (T (p t))) c.find.ensures.ran (λ t q k. search (rules, tests, passes)) (λ t q k. search (rules, tests, not_passes)))

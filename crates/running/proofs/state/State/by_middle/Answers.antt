-- `running::state::State::by_middle` meets its contract: the middle step goes from s where s is A-colourable, else from t.
use mathlib.Core.Path.{sym}
use Rattle.running.proofs.DerivedSteps.{left_small, apart_left, outcome_left, apart_right, outcome_right}
use Rattle.running.proofs.state.State.by_middle.Goals as goal

pub bounds-self-s : goal.bounds-self-s
bounds-self-s c = left_small c.requires.0 _ _ c.requires.1

pub middle_step-requires : goal.middle_step-requires
middle_step-requires c = (c.requires.0, apart_left c.requires.0 _ _ c.requires.1 c.requires.2 (sym c.if-in_a.ensures))

pub middle_step-requires-else-in_a : goal.middle_step-requires-else-in_a
middle_step-requires-else-in_a c = (c.requires.0, apart_right c.requires.0 _ _ c.requires.1 c.requires.2 (sym c.if-in_a.ensures))

pub returns-then-in_a : goal.returns-then-in_a
returns-then-in_a c run pair = let odd = sym c.if-in_a.ensures in
    outcome_left run _ _ pair c.requires.2 odd _ _ (c.middle_step.ensures run (apart_left run _ _ pair c.requires.2 odd))

pub returns-else-in_a : goal.returns-else-in_a
returns-else-in_a c run pair = let even = sym c.if-in_a.ensures in
    outcome_right run _ _ pair c.requires.2 even _ _ (c.middle_step-else-in_a.ensures run (apart_right run _ _ pair c.requires.2 even))

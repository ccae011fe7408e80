-- `running::state::State::derived_steps` meets its contract. The invariant: the state is one of a run, and the turns left come to the same end.
use Rattle.std.proofs.lemmas.Result.{err_from_is_err_and}
use mathlib.Core.Path.{sym, subst}
use Prim.Native.Nat.{◌+◌}
use native.Mathlib.Omega.{arith}
use Rattle.running.proofs.DerivedSteps.{plain_step}
use Rattle.running.proofs.OwnTurns.{orderly, TurnsLeft, onward, no_turn_left, no_pair_left, can_derive, pair_fits, turn_stuck, turn_taken}
use Rattle.running.proofs.state.State.derived_steps.Goals as goal
use Rattle.running.proofs.state.State.derived_steps.Goals.{in-Some-edge_colour, in-None+in_ok-by_middle-in-None}

pub first_pair-requires : goal.first_pair-requires
first_pair-requires c = let run = c.requires.0 in
    (omega (arith, run.checked.few), orderly (onward run c.requires.1 (c.loop-turn.invariant run c.requires.1)))

pub returns-in_default : goal.returns-in_default
returns-in_default c run e = no_pair_left run e (c.loop-turn.invariant run e) c.loop-turn-test.true c.in_default.ensures

pub bounds-self-s : goal.bounds-self-s
bounds-self-s c = let run = c.requires.0 in
    omega (arith, (pair_fits run c.requires.1 (c.loop-turn.invariant run c.requires.1) c.loop-turn-test.true c.in-Some.ensures).0)

pub bounds-self-t : goal.bounds-self-t
bounds-self-t c = let run = c.requires.0 in
    omega (arith, (pair_fits run c.requires.1 (c.loop-turn.invariant run c.requires.1) c.loop-turn-test.true c.in-Some.ensures).1)

pub join-requires : goal.join-requires
join-requires c =
    let run = c.requires.0 in
    let e = c.requires.1 in
    let w = c.loop-turn.invariant run e in
    let more = c.loop-turn-test.true in
    let fits = pair_fits run e w more c.in-Some.ensures in
    (omega (arith, fits.0), omega (arith, fits.1), (plain_step (onward run e w) _ _ (can_derive run e w more c.in-Some.ensures) _ (sym c.in-Some-edge_colour.ensures)).0)

pub by_middle-requires : goal.by_middle-requires
by_middle-requires c =
    let run = c.requires.0 in
    let e = c.requires.1 in
    let w = c.loop-turn.invariant run e in
    (onward run e w, can_derive run e w c.loop-turn-test.true c.in-Some.ensures, sym c.in-None.ensures)

pub returns-in_err-by_middle-in-None : goal.returns-in_err-by_middle-in-None
returns-in_err-by_middle-in-None c run e =
    let w = c.loop-turn.invariant run e in
    let more = c.loop-turn-test.true in
    let p = err_from_is_err_and c.from_residual.result c.from_residual.ensures.1 in
    rw p.1 (turn_stuck run e w more c.in-Some.ensures (c.in_err-by_middle-in-None.ensures (onward run e w) (can_derive run e w more c.in-Some.ensures)))

pub loop-turn-preserved : goal.loop-turn-preserved
loop-turn-preserved c run e =
    let w = c.loop-turn.invariant run e in
    let more = c.loop-turn-test.true in
    let taken = c.loop-turn._turn + 1 in
    let found = c.in-Some.ensures in
    let pair = can_derive run e w more found in
    elim c.match-edge_colour.branch [
      | in-Some-edge_colour v ↦ subst (λ s. TurnsLeft run c.args.n s taken) (sym v.self-is)
          (turn_taken run e w more found _ (_, (plain_step (onward run e w) _ _ pair _ (sym v.in-Some-edge_colour.ensures)).1, v.join.ensures run.ts run.ls w.reached w.shows))
      | in-None+in_ok-by_middle-in-None v ↦ subst (λ s. TurnsLeft run c.args.n s taken) (sym v.self-is)
          (turn_taken run e w more found _ (v.in_ok-by_middle-in-None.ensures (onward run e w) pair))
    ]

pub returns : goal.returns
returns c run e = no_turn_left run e (c.loop-turn.invariant run e) c.loop-turn-test.false

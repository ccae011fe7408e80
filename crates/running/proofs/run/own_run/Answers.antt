-- `running::run::own_run` meets its contract: the state before the first step, the basic steps over the records that are lent, and the turns.
use Rattle.std.proofs.Common.{Ok, Err, None}
use Rattle.std.proofs.lemmas.Result.{err_from_is_err_and}
use mathlib.Core.List.{List}
use mathlib.Core.Path.{◌≡◌, refl, sym, subst}
use Prim.Native.Nat.{ℕ}
use Rattle.tables.specs.TermTable.{terms_of}
use Rattle.tables.specs.LiteralTable.{literals_of}
use Rattle.closure.specs.OwnRun.{own_run}
use Rattle.running.specs.Shown.{padded}
use Rattle.running.specs.Stepping.{Reaches}
use Rattle.running.proofs.Beginning.{lent}
use Rattle.running.proofs.OwnTurns.{after_basic, turns_given, ends}
use Rattle.running.proofs.run.own_run.Goals as goal

pub lay-requires : goal.lay-requires
unfolding padded
lay-requires c = record { symbols = refl; arities = refl; rows = refl; colours = refl; vertices = refl; edges = c.empty.ensures.0; count = c.empty.ensures.1; labels = c.own_labels.ensures }

pub basic_steps-requires : goal.basic_steps-requires
basic_steps-requires c = let from = lent c.requires.0 _ c.requires.1 in (from.terms, from.sound, c.lay.ensures from)

pub derived_steps-requires : goal.derived_steps-requires
derived_steps-requires c = let from = lent c.requires.0 _ c.requires.1 in
    let shows = c.basic_steps.ensures from.terms from.sound (c.lay.ensures from) in
    (after_basic _ from _ shows, turns_given _ from _ shows)

pub returns-in_err-derived_steps : goal.returns-in_err-derived_steps
returns-in_err-derived_steps c read same = let from = lent read _ same in
    let shows = c.basic_steps.ensures from.terms from.sound (c.lay.ensures from) in
    let p = err_from_is_err_and c.from_residual.result c.from_residual.ensures.1 in
    rw p.1 (subst (λ (ls : List ℕ). own_run (terms_of read.terms) (literals_of ls) ≡ None) (sym same) (ends _ from _ shows (Err _) c.derived_steps.new.self c.in_err-derived_steps.ensures))

pub returns : goal.returns
returns c read same = let from = lent read _ same in
    let shows = c.basic_steps.ensures from.terms from.sound (c.lay.ensures from) in
    subst (λ (ls : List ℕ). Reaches (terms_of read.terms) (literals_of ls) (own_run (terms_of read.terms) (literals_of ls)) c.derived_steps.new.self) (sym same) (ends _ from _ shows (Ok _) c.derived_steps.new.self c.in_ok-derived_steps.ensures)

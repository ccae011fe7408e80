-- The turns of the library's own run as the code takes them: the arrays go on showing the state of a run, and the turns left come to the same end.
use Rattle.std.proofs.Common.{Option, Some, None, Result}
use mathlib.Core.List.{List, []}
use mathlib.Core.Logic.{◌⊎◌, inl, inr, ⊎_elim}
use mathlib.Core.Path.{◌≡◌, refl, sym, ap, subst, ◌∙◌}
use Prim.Native.Nat.{ℕ, zero, suc, ◌+◌, ◌-◌, ◌≤◌, ◌<◌}
use native.Mathlib.Omega.{arith}
use lib.Dec.{T}
use lib.ListN.{length, get_or, get_or-eq_default}
use Rattle.tables.specs.Words.{Pair, pair, pairs_below}
use Rattle.tables.specs.Terms.{Term, term_at}
use Rattle.tables.specs.TermTable.{term_count, term_record, symbol_field, arity_field, term_of, terms_of}
use Rattle.tables.specs.LiteralTable.{literals_of}
use Rattle.tables.specs.declared.Literal.{Literal}
use Rattle.tables.specs.declared.Tables.{Tables}
use Rattle.tables.proofs.Words.{below_or_is, below_or_not, get_d_mem, first_of_some, pairs_below_mem}
use Rattle.tables.proofs.Filled.{filled_behind}
use Rattle.tables.proofs.Sound.{SoundTables, length_terms_of, term_at_terms_of, arity_small, later_arity, lower_arguments, sides_within}
use Rattle.closure.specs.Steps.{State, begin, table_of, Step, Run, start, next}
use Rattle.closure.specs.OwnRun.{basic_steps, derivable, first_pair, derived_on, turns_at, own_run}
use Rattle.running.specs.Shown.{padded, Shows}
use Rattle.running.specs.Keys.{FieldsWithin, Orderly, OneArity}
use Rattle.running.specs.Opening.{ReadFrom}
use Rattle.running.specs.Stepping.{Checked, OnRun, Reaches, Outcome}
use Rattle.running.specs.declared.state.Stuck.{Stuck}
use Rattle.running.specs.declared.state.State.{State as Arrays}
use Rattle.running.proofs.Arrays.{zeros_behind}
use Rattle.running.proofs.Showing.{shown_arity, shown_row}
use Rattle.running.proofs.Beginning.{sound_tables_is, terms_are, arity_length}
use Rattle.closure.proofs.Running.OwnSteps.{basic_steps_run}
use Rattle.closure.proofs.Running.OwnRun.{turns_none, turns_stuck, turns_some, first_pair_step}
use Rattle.running.proofs.EqualVertex.{padded_length}
use Rattle.running.proofs.OnRuns.{on_run_sound, arity_small as few-arguments}

-- ---- the arrays can be looked up

-- the fields of a row are within where the arguments are
fields_within : (xs : List ℕ) → length xs ≤ 4 → ((j : ℕ) → j < length xs → get_or xs j 0 < 511) → FieldsWithin (padded xs)
unfolding padded
fields_within xs h f = (padded_length xs h, λ j l. subst (λ (k : ℕ). k < 511) (sym (zeros_behind xs (4 - length xs) j)) (⊎_elim (f j) (λ (w : length xs ≤ j). omega (arith, get_or-eq_default xs 0 {n = j} w)) (below_or_not j (length xs))))

module _ {a : Arrays} (run : OnRun a) where
  -- the given and the added terms
  abbrev table : List Term
  table = table_of run.ts run.reached

  -- the arrays of a run can be looked up
  pub orderly : Orderly a
  orderly = record { rows = rows; arities = arities }
    where
      -- the rows
      rows : (v : ℕ) → v < 511 → FieldsWithin (get_or a.rows v [])
      rows v l =
          ⊎_elim
          (λ (w : v < length table). subst FieldsWithin (sym (shown_row run.ts run.ls run.reached a run.shows v w))
          (fields_within (term_at table v).arguments (few-arguments run v w) (λ j k. omega (arith, l, (on_run_sound run).lower v w (get_or (term_at table v).arguments j 0) (get_d_mem (term_at table v).arguments j 0 k)))))
          (λ (w : length table ≤ v). subst FieldsWithin (sym (ap (λ (rs : List (List ℕ)). get_or rs v []) run.shows.rows ∙ filled_behind (λ k. padded (term_at table k).arguments) 511 (padded []) (length table) v [] w l))
          (fields_within [] (omega arith) (λ j k. let z : ⊥ = omega arith in absurd z)))
          (below_or_not v (length table))

      -- the arities
      arities : (v : ℕ) → v < 511 → get_or a.arities v 0 ≤ 4
      arities v l =
          ⊎_elim
          (λ (w : v < length table). omega (arith, shown_arity run.ts run.ls run.reached a run.shows v w, few-arguments run v w))
          (λ (w : length table ≤ v). omega (arith, ap (λ (rs : List ℕ). get_or rs v 0) run.shows.arities ∙ filled_behind (λ k. length (term_at table k).arguments) 511 0 (length table) v 0 w l))
          (below_or_not v (length table))

-- ---- the turns

-- what is found can be derived, and is a pair of given terms
pub found_derivable : (ts : List Term) (ls : List Literal) (st : State) (p : Pair) → first_pair ts ls st ≡ Some p → T (derivable ts ls st p) × (p.left < length ts) × (p.right < length ts)
unfolding first_pair
found_derivable ts ls st p e =
    let h = first_of_some (derivable ts ls st) (pairs_below (length ts)) p e in
    let w = pairs_below_mem (length ts) p h.0 in
    (h.1, omega (arith, w.0, w.1), w.1)

-- after some turns the arrays show a state of the run that started, and the turns left come to the same end
pub record TurnsLeft {first : Arrays} (run : OnRun first) (given : ℕ) (a : Arrays) (taken : ℕ) : Type 0 where
  pub reached : State
  pub shows : Shows run.ts run.ls reached a
  pub steps : ℕ
  pub going : Run run.ts run.ls steps reached
  pub left : turns_at (first_pair run.ts run.ls) (derived_on run.ts run.ls) given run.reached ≡ turns_at (first_pair run.ts run.ls) (derived_on run.ts run.ls) (given - taken) reached

-- what the search hands out: the first pair of the state, which can be derived, of terms whose numbers fit
pub record Found {first : Arrays} (run : OnRun first) (reached : State) (s t : ℕ) : Type 0 where
  pub is_first : first_pair run.ts run.ls reached ≡ Some (pair s t)
  pub can_derive : T (derivable run.ts run.ls reached (pair s t))
  pub left_fits : s < 256
  pub right_fits : t < 256

pub found_pair : {first : Arrays} (run : OnRun first) {given : ℕ} {a : Arrays} {taken : ℕ} (w : TurnsLeft run given a taken) {handed : Option Pair} {s t : ℕ} → handed ≡ first_pair run.ts run.ls w.reached → handed ≡ Some (pair s t) → Found run w.reached s t
found_pair run w {s = s} {t = t} e is =
    let first : first_pair run.ts run.ls w.reached ≡ Some (pair s t) = sym e ∙ is in
    let found = found_derivable run.ts run.ls w.reached (pair s t) first in
    record { is_first = first; can_derive = found.0; left_fits = omega (arith, found.1, run.checked.few); right_fits = omega (arith, found.2, run.checked.few) }

module _ {first : Arrays} (run : OnRun first) {given : ℕ} (given-is : given ≡ length run.ts) where
  -- the given terms
  abbrev ts : List Term
  ts = run.ts

  -- the literals
  abbrev ls : List Literal
  ls = run.ls

  -- the turns
  abbrev turns : ℕ → State → Option State
  turns = turns_at (first_pair ts ls) (derived_on ts ls)

  -- the end of the turns
  abbrev pub end : Option State
  end = turns given run.reached

  -- before the first turn
  pub all_left : TurnsLeft run given first 0
  all_left = record { reached = run.reached; shows = run.shows; steps = run.steps; going = run.run; left = let all : given ≡ given - 0 = omega arith in ap (λ (k : ℕ). turns k run.reached) all }

  module _ {a : Arrays} {taken : ℕ} (w : TurnsLeft run given a taken) where
    -- the state is one of a run
    abbrev pub onward : OnRun a
    onward = record { ts = ts; ls = ls; reached = w.reached; checked = run.checked; shows = w.shows; steps = w.steps; run = w.going }

    -- what is handed out is the state
    shown_end : end ≡ Some w.reached → Reaches ts ls end a
    shown_end e = (w.reached, e, w.shows)

    -- all turns are taken
    pub no_turn_left : given ≤ taken → Reaches ts ls end a
    unfolding turns_at
    no_turn_left l =
        let z : given - taken ≡ 0 = omega arith in
        shown_end (w.left ∙ ap (λ (k : ℕ). turns k w.reached) z)

    module _ (more : taken < given) where
      -- there is a turn, which comes next
      turn_is : end ≡ turns (suc (given - (taken + 1))) w.reached
      turn_is = let one_more : given - taken ≡ suc (given - (taken + 1)) = omega arith in w.left ∙ ap (λ (k : ℕ). turns k w.reached) one_more

      -- no pair is left
      pub no_pair_left : ((ts : List Term) (ls : List Literal) (reached : State) → Shows ts ls reached a → given ≡ length ts → OneArity ts → None ≡ first_pair ts ls reached) → Reaches ts ls end a
      no_pair_left h =
          shown_end (turn_is ∙ turns_none (first_pair ts ls) (derived_on ts ls) (given - (taken + 1)) w.reached (sym (h ts ls w.reached w.shows given-is run.checked.one_arity)))

      module _ {s t : ℕ} (h : (ts : List Term) (ls : List Literal) (reached : State) → Shows ts ls reached a → given ≡ length ts → OneArity ts → Some (pair s t) ≡ first_pair ts ls reached) where
        -- what the search hands out
        found : Found run w.reached s t
        found = found_pair run w (h ts ls w.reached w.shows given-is run.checked.one_arity) refl

        -- is the first pair of the state
        is_first : first_pair ts ls w.reached ≡ Some (pair s t)
        is_first = found.is_first

        -- which can be derived
        pub can_derive : T (derivable ts ls w.reached (pair s t))
        can_derive = found.can_derive

        -- of terms whose numbers fit
        pub pair_fits : (s < 256) × (t < 256)
        pair_fits = (found.left_fits, found.right_fits)

        -- row 8
        pub turn_stuck : derived_on ts ls w.reached (pair s t) ≡ None → end ≡ None
        turn_stuck d = turn_is ∙ turns_stuck (first_pair ts ls) (derived_on ts ls) (given - (taken + 1)) w.reached (pair s t) is_first d

        -- a step taken, to the arrays that show where it leads
        pub turn_taken : (r : Arrays) → Reaches ts ls (derived_on ts ls w.reached (pair s t)) r → TurnsLeft run given r (taken + 1)
        turn_taken r (after, d, shows) =
            let x = first_pair_step ts ls run.checked.lower run.checked.sides w.reached (on_run_sound onward) (pair s t) is_first in
            record {
              reached = after;
              shows = shows;
              steps = suc w.steps;
              going = next w.going (subst (Step ts ls w.reached) (same x.0 after (sym x.1 ∙ d)) x.2);
              left = turn_is ∙ turns_some (first_pair ts ls) (derived_on ts ls) (given - (taken + 1)) w.reached after (pair s t) is_first d;
            }
          where
            -- a step leads to one state
            same : (z after : State) → Some z ≡ Some after → z ≡ after
            same z after h = cc

-- ---- from the tables

module _ (t : Tables) (from : ReadFrom t) where
  -- the bytes of the terms
  abbrev bs : List ℕ
  bs = from.terms

  -- the given terms
  abbrev given : List Term
  given = terms_of bs

  -- the literals
  abbrev literals : List Literal
  literals = literals_of from.literals

  -- no row of the checks refuses the tables
  passed : SoundTables bs from.literals
  passed = sound_tables_is t from

  -- a given term is a record
  counted : (v : ℕ) → v < length given → v < term_count bs
  counted v l = omega (arith, length_terms_of bs)

  -- as many arguments as the arity says
  arguments_are : (v : ℕ) → v < length given → length (term_at given v).arguments ≡ arity_field (term_record bs v)
  unfolding term_of
  arguments_are v l = ap (λ (x : Term). length x.arguments) (term_at_terms_of bs v (counted v l)) ∙ sym (arity_length bs from.literals passed v (counted v l))

  -- and its symbol
  symbol_is : (v : ℕ) → v < length given → (term_at given v).symbol ≡ symbol_field (term_record bs v)
  unfolding term_of
  symbol_is v l = ap (λ (x : Term). x.symbol) (term_at_terms_of bs v (counted v l))

  -- a symbol has one arity
  one_arity : OneArity given
  one_arity u v l m e = arguments_are u l ∙ go (below_or_not u v) ∙ sym (arguments_are v m)
    where
      -- the records have one symbol
      symbols : symbol_field (term_record bs u) ≡ symbol_field (term_record bs v)
      symbols = sym (symbol_is u l) ∙ e ∙ symbol_is v m

      go : (u < v) ⊎ (v ≤ u) → arity_field (term_record bs u) ≡ arity_field (term_record bs v)
      go (inl h) = later_arity bs from.literals passed u v h (counted v m) symbols
      go (inr h) = ⊎_elim (λ k. sym (later_arity bs from.literals passed v u k (counted u l) (sym symbols))) (λ k. ap (λ (i : ℕ). arity_field (term_record bs i)) (sym k)) (below_or_is v u (omega arith))

  -- what the checks settle
  pub checks : Checked given literals
  checks =
      record {
        lower = lower_arguments bs from.literals passed;
        sides = sides_within bs from.literals passed;
        few = omega (arith, length_terms_of bs, passed.terms_fit);
        small = λ v l. omega (arith, arguments_are v l, arity_small bs from.literals passed v (counted v l));
        one_arity = one_arity;
      }

  module _ (a : Arrays) (shows : Shows given literals (basic_steps literals begin) a) where
    -- after the basic steps the arrays show a state of a run
    basic_run : (k : ℕ) × Run given literals k (basic_steps literals begin)
    basic_run = basic_steps_run given literals literals (λ l m. m) zero begin start

    -- so they can go on
    pub after_basic : OnRun a
    after_basic = record { ts = given; ls = literals; reached = basic_steps literals begin; checked = checks; shows = shows; steps = basic_run.0; run = basic_run.1 }

    -- the turns are as many as the given terms
    pub turns_given : t.terms ≡ length after_basic.ts
    unfolding after_basic
    turns_given = terms_are t from ∙ sym (length_terms_of bs)

    -- so the turns end the library's own run
    pub ends : (r : Result Unit Stuck) (b : Arrays) → ((run : OnRun a) → t.terms ≡ length run.ts → Outcome run.ts run.ls (turns_at (first_pair run.ts run.ls) (derived_on run.ts run.ls) t.terms run.reached) r b) → Outcome given literals (own_run given literals) r b
    unfolding after_basic own_run
    ends r b h =
        subst (λ (k : ℕ). Outcome given literals (turns_at (first_pair given literals) (derived_on given literals) k (basic_steps literals begin)) r b)
        (terms_are t from ∙ sym (length_terms_of bs)) (h after_basic (terms_are t from ∙ sym (length_terms_of bs)))

-- How a run ends: stuck at row 8, or in a last state of which the verdict is read off.
use Rattle.std.proofs.Common.{Option, Some, None}
use mathlib.Core.List.{map}
use mathlib.Core.Path.{◌≡◌, refl, sym, ap, ◌∙◌}
use Prim.Native.Nat.{ℕ}
use Rattle.tables.specs.declared.Tables.{Tables}
use Rattle.tables.specs.Words.{first_below}
use Rattle.tables.specs.LiteralTable.{literal_count}
use Rattle.closure.specs.OwnRun.{own_run}
use Rattle.running.specs.Opening.{ReadFrom}
use Rattle.running.specs.Stepping.{Reaches}
use Rattle.running.specs.declared.state.State.{State as Arrays}
use Rattle.demands.specs.Buffers.{term_bytes, Buffers, Returned}
use Rattle.demands.specs.Call.{refused, consistent, inconsistent, verdict, ended}
use Rattle.clauses.specs.Reading.{critical}
use Rattle.engine.specs.Ending.{Ends, Decides, terms_in, literals_in, met_by, class_bytes, records_for}
use Rattle.engine.proofs.Searches.{met_first, classes_are}

-- row 8
pub ended_stuck : {t : Tables} (from : ReadFrom t) (bs : Buffers) → own_run (terms_in from) (literals_in from) ≡ None → refused bs 8 0 ≡ ended bs (terms_in from) (literals_in from) (own_run (terms_in from) (literals_in from))
unfolding ended
ended_stuck from bs e = sym (ap (ended bs (terms_in from) (literals_in from)) e)

module _ (t : Tables) (end : Arrays) (from : ReadFrom t) (reaches : Reaches (terms_in from) (literals_in from) (own_run (terms_in from) (literals_in from)) end) where
  -- the arrays show the last state
  abbrev pub ends_of_is : Ends t end
  ends_of_is = record { from = from; state = reaches.0; last = reaches.1; shows = reaches.2 }

  module _ (f : Option ℕ) (met : f ≡ first_below (met_by from.literals end.labels) (literal_count from.literals)) where
    -- what is found is the critical disequality, or none
    pub found_critical : critical (literals_in from) ends_of_is.state.graph ≡ f
    found_critical = sym (met ∙ met_first _ _ ends_of_is _ refl)

    -- one is decided by
    abbrev pub decides : (d : ℕ) → f ≡ Some d → Decides t end d
    decides d is = record { ends = ends_of_is; found = found_critical ∙ is }

    -- and has its sides joined
    pub ended_inconsistent : (bs : Buffers) (d : ℕ) (is : f ≡ Some d) (r : Returned) → r ≡ inconsistent bs d (map term_bytes reaches.0.added) (records_for (decides d is)) → r ≡ ended bs (terms_in from) (literals_in from) (own_run (terms_in from) (literals_in from))
    unfolding ended verdict
    ended_inconsistent bs d is r e =
        e ∙ sym (ap (verdict bs (terms_in from) (literals_in from) reaches.0) (found_critical ∙ is)) ∙ sym (ap (ended bs (terms_in from) (literals_in from)) reaches.1)

    -- none has
    pub ended_consistent : (bs : Buffers) → f ≡ None → (r : Returned) → r ≡ consistent bs (class_bytes t.used end.labels t.terms) → r ≡ ended bs (terms_in from) (literals_in from) (own_run (terms_in from) (literals_in from))
    unfolding ended verdict
    ended_consistent bs is r e =
        e ∙ ap (consistent bs) (classes_are _ _ ends_of_is) ∙ sym (ap (verdict bs (terms_in from) (literals_in from) reaches.0) (found_critical ∙ is)) ∙ sym (ap (ended bs (terms_in from) (literals_in from)) reaches.1)

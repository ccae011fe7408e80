-- `engine::judged` meets its contract: a row of the checks refuses, or the run and what follows it say the rest.
use Rattle.std.proofs.Common.{Fits, w8, get_or, Result, Ok, Err, List, ℕ, ◌≡◌, refl, sym, ap, ◌∙◌, arith}
use Rattle.std.proofs.lemmas.Result.{err_from_is_err_and}
use Rattle.tables.specs.Bytes.{AllBytes}
use Rattle.tables.specs.Read.{tables_read}
use Rattle.tables.specs.declared.Tables.{Tables}
use Rattle.tables.proofs.WordBytes.{small_bytes}
use Rattle.tables.proofs.Sound.{read_check, read_refused}
use Rattle.running.specs.Opening.{ReadFrom}
use Rattle.running.proofs.Beginning.{terms_fit}
use Rattle.running.proofs.BasicSteps.{sides_small}
use Rattle.demands.specs.declared.Answer.{Answer}
use Rattle.demands.specs.Answers.{numbers_of}
use Rattle.demands.specs.Buffers.{Buffers, Returned}
use Rattle.demands.specs.Call.{judged, Called, buffers_of}
use Rattle.demands.proofs.Ways.{judged_refused, judged_ended}
use Rattle.engine.specs.declared.refusal.Refusal.{Refusal}
use Rattle.engine.specs.Refusals.{answer_of}
use Rattle.engine.proofs.EndOfRun.{ended_stuck, decides, ended_inconsistent, ended_consistent}
use Rattle.engine.proofs.judged.Goals as goal

-- the entries of a table are bytes
table_bytes : (bs : List ℕ) → ((i : ℕ) → Fits w8 (get_or bs i 0)) → AllBytes bs
table_bytes bs fits = small_bytes bs (λ i. omega (arith, fits i))

-- what comes back is that of the definition, and the tables are bytes
called : {terms literals : List ℕ} {bs : Buffers} {r : Returned} → ((i : ℕ) → Fits w8 (get_or terms i 0)) → ((i : ℕ) → Fits w8 (get_or literals i 0)) → r ≡ judged terms literals bs → Called terms literals bs r
called {terms} {literals} t l e = record { returned = e; terms_are_bytes = table_bytes terms t; literals_are_bytes = table_bytes literals l }

-- an error comes back as its answer, and the buffers as they were
refused_by : (bs : Buffers) {r : Result Answer Refusal} {e : Refusal} {x : Refusal} → r ≡ Err e → e ≡ x → ◌≡◌ {A = Returned} (record { numbers = numbers_of (answer_of r); buffers = bs }) (record { numbers = numbers_of (answer_of (Err x)); buffers = bs })
refused_by bs is same = ap (λ (r : Result Answer Refusal). record { numbers = numbers_of (answer_of r); buffers = bs }) (is ∙ ap Err same)

-- what is read where no row refuses
abbrev from_read : (terms literals : List ℕ) (r : Result Tables _) (t : Tables) → r ≡ tables_read terms literals → r ≡ Ok t → ReadFrom t
from_read terms literals r t e is = record { terms = terms; literals = literals; read = sym e ∙ is; sound = read_check terms literals t (sym e ∙ is) }

pub returns-in_err-tables : goal.returns-in_err-tables
returns-in_err-tables c =
    let bs = buffers_of c.args.partition.now c.args.added.now c.args.clauses.now in
    let p = err_from_is_err_and c.from_residual.result c.from_residual.ensures.1 in
    called c.type_inv.terms c.type_inv.literals
    (refused_by bs p.1 p.2 ∙ sym (judged_refused _ _ bs _ (read_refused _ _ _ (sym c.read.ensures ∙ c.in_err-tables.was))))

pub own_run-requires : goal.own_run-requires
own_run-requires c = (from_read _ _ _ _ c.read.ensures (c.in_ok-tables.was), refl)

pub returns-in_err-end : goal.returns-in_err-end
returns-in_err-end c =
    let bs = buffers_of c.args.partition.now c.args.added.now c.args.clauses.now in
    let from = from_read _ _ _ _ c.read.ensures (c.in_ok-tables.was) in
    let p = err_from_is_err_and c.from_residual-in_err-end.result c.from_residual-in_err-end.ensures.1 in
    called c.type_inv.terms c.type_inv.literals
    (refused_by bs p.1 p.2 ∙ ended_stuck from bs (c.in_err-end.ensures from refl) ∙ sym (judged_ended _ _ bs from.sound))

pub critical-requires : goal.critical-requires
critical-requires c i h =
    let small = sides_small _ _ (from_read _ _ _ _ c.read.ensures (c.in_ok-tables.was)).sound i h refl in
    (omega (arith, small.0), omega (arith, small.1))

pub consistent-requires : goal.consistent-requires
consistent-requires c = terms_fit _ (from_read _ _ _ _ c.read.ensures (c.in_ok-tables.was))

pub inconsistent-requires : goal.inconsistent-requires
inconsistent-requires c =
    let from = from_read _ _ _ _ c.read.ensures (c.in_ok-tables.was) in
    (decides _ _ from (c.in_ok-end.ensures from refl) _ c.critical.ensures _ c.in-Some.is, refl)

pub returns-in-None : goal.returns-in-None
returns-in-None c =
    let from = from_read _ _ _ _ c.read.ensures (c.in_ok-tables.was) in
    called c.type_inv.terms c.type_inv.literals
    (ended_consistent _ _ from (c.in_ok-end.ensures from refl) _ c.critical.ensures _ c.in-None.is _ (c.consistent.ensures _ _) ∙
    sym (judged_ended _ _ _ from.sound))

pub returns-in-Some : goal.returns-in-Some
returns-in-Some c =
    let from = from_read _ _ _ _ c.read.ensures (c.in_ok-tables.was) in
    let reaches = c.in_ok-end.ensures from refl in
    called c.type_inv.terms c.type_inv.literals
    (ended_inconsistent _ _ from reaches _ c.critical.ensures _ _ c.in-Some.is _ (c.inconsistent.ensures (decides _ _ from reaches _ c.critical.ensures _ c.in-Some.is) refl _) ∙
    sym (judged_ended _ _ _ from.sound))

-- What the verdict is read off: tables that no row of the checks refuses, and the arrays of the last state of the library's own run over them.
use Rattle.std.specs.Prelude.{Bool, false, cond, not, ◌&&◌, ◌≡◌, ℕ, ◌+◌, ◌-◌, ◌*◌, ◌/◌, ◌%◌, ◌≤◌, ◌<◌, eqb, ltb, length, get_or, Some, unwrap_or}
use mathlib.Core.List.{List, [], ◌∷◌, ◌++◌, flat_map}
use Rattle.tables.specs.Words.{below, first_below}
use Rattle.tables.specs.Bytes.{word_bytes}
use Rattle.tables.specs.Terms.{Term}
use Rattle.tables.specs.TermTable.{terms_of}
use Rattle.tables.specs.LiteralTable.{is_equal, literal_count, literal_record, literal_of, literals_of}
use Rattle.tables.specs.declared.Literal.{Literal}
use Rattle.tables.specs.declared.Tables.{Tables}
use Rattle.closure.specs.Steps.{State}
use Rattle.closure.specs.OwnRun.{own_run}
use Rattle.running.specs.Shown.{Shows}
use Rattle.running.specs.Opening.{ReadFrom}
use Rattle.running.specs.declared.state.State.{State as Arrays}
use Rattle.clauses.specs.Reading.{literal_at, critical}
use Rattle.demands.specs.Buffers.{written_over}
use Rattle.demands.specs.Verdicts.{records_in}

-- the terms and the literals that the tables are read from
abbrev pub terms_in : {t : Tables} → ReadFrom t → List Term
terms_in from = terms_of from.terms

abbrev pub literals_in : {t : Tables} → ReadFrom t → List Literal
literals_in from = literals_of from.literals

-- the arrays show the last state of the run over the tables
pub record Ends (t : Tables) (s : Arrays) : Type 0 where
  pub from : ReadFrom t
  pub state : State
  pub last : own_run (terms_in from) (literals_in from) ≡ Some state
  pub shows : Shows (terms_in from) (literals_in from) state s

-- and d is the critical disequality there
pub record Decides (t : Tables) (s : Arrays) (d : ℕ) : Type 0 where
  pub ends : Ends t s
  pub found : critical (literals_in ends.from) ends.state.graph ≡ Some d

-- the clause records of that disequality
abbrev pub records_for : {t : Tables} {s : Arrays} {d : ℕ} → Decides t s d → List (List ℕ)
records_for {d = d} w = records_in (terms_in w.ends.from) (literals_in w.ends.from) w.ends.state (literal_at (literals_in w.ends.from) d)

-- records are counted, and written where all of them have room; else the buffer stays as it is
pub record Written (rs : List (List ℕ)) (buffer : List ℕ) (count : ℕ) (out : List ℕ) : Type 0 where
  pub counted : count ≡ length rs
  pub bytes : 8 * length rs ≤ length buffer → out ≡ written_over (flat_map (λ r. r) rs) buffer
  pub kept : length buffer < 8 * length rs → out ≡ buffer

-- the sides of all records have a label
abbrev pub SidesLabelled : List ℕ → Type 0
SidesLabelled ls = (i : ℕ) → i < literal_count ls → ((literal_of (literal_record ls i)).left < 511) × ((literal_of (literal_record ls i)).right < 511)

-- a record is a disequality whose sides have one label
abbrev pub meets : List ℕ → Literal → Bool
meets labels l = not (is_equal l.kind) && eqb (get_or labels l.left 0) (get_or labels l.right 0)

-- the same of the record's number
abbrev pub met_by : List ℕ → List ℕ → ℕ → Bool
met_by ls labels i = meets labels (literal_of (literal_record ls i))

-- a class number by the marks of the terms in use and the labels of all terms, among the first n terms
unfoldable pub class_by : List Bool → List ℕ → ℕ → ℕ → ℕ
class_by used labels n t =
    let lowest = unwrap_or (first_below (λ u. get_or used u false && eqb (get_or labels u 0) (get_or labels t 0)) n) 65535 in
    cond (get_or used t false) lowest 65535

-- the class numbers of the first n terms, two bytes each
abbrev pub class_bytes : List Bool → List ℕ → ℕ → List ℕ
class_bytes used labels n = flat_map (λ k. word_bytes (class_by used labels n k)) (below n)

-- "Term record, 16 bytes", by its fields
unfoldable pub record_bytes : ℕ → ℕ → List ℕ → List ℕ
record_bytes symbol arity row =
    word_bytes symbol ++ (arity ∷ 0 ∷ []) ++
    (word_bytes (get_or row 0 0) ++ word_bytes (get_or row 1 0) ++ word_bytes (get_or row 2 0) ++ word_bytes (get_or row 3 0)) ++
    (0 ∷ 0 ∷ 0 ∷ 0 ∷ [])

-- the record of the term at a place behind the given ones
abbrev pub record_in : ℕ → Arrays → ℕ → List ℕ
record_in given s k = record_bytes (get_or s.symbols (given + k) 0) (get_or s.arities (given + k) 0) (get_or s.rows (given + k) [])

-- and of all of them
abbrev pub records_bytes : ℕ → Arrays → List ℕ
records_bytes given s = flat_map (record_in given s) (below (s.terms - given))

-- the ends of the first edges are terms
abbrev pub EndsIn : List ℕ → ℕ → Type 0
EndsIn ends count = (i : ℕ) → i < count → get_or ends i 0 < 511

-- the counts of their parent paths: for a derived edge the arity of its ends
abbrev pub PlacesOf : List ℕ → List Bool → List ℕ → ℕ → List ℕ → Type 0
PlacesOf lefts derived arities count places =
    (i : ℕ) → i < count → get_or places i 0 ≡ cond (get_or derived i false) (get_or arities (get_or lefts i 0) 0) 0

-- the field at place k of the edges' ends, eight for each edge: four of the left end's row, and four of the right end's
abbrev pub parent_at : List (List ℕ) → List ℕ → List ℕ → ℕ → ℕ
parent_at rows lefts rights k =
    get_or (get_or rows (cond (ltb (k % 8) 4) (get_or lefts (k / 8) 0) (get_or rights (k / 8) 0)) []) (k % 4) 0

-- the fields of the first edges stand one behind the other
abbrev pub ParentsOf : List (List ℕ) → List ℕ → List ℕ → ℕ → List ℕ → Type 0
ParentsOf rows lefts rights count parents = (k : ℕ) → k < 8 * count → get_or parents k 0 ≡ parent_at rows lefts rights k

-- What the run starts from: tables that no row of the checks refuses, and the state before the first step.
use Rattle.std.specs.Prelude.{false, List, [], ◌≡◌, ℕ, replicate, Ok}
use Rattle.tables.specs.Checks.{Sound, checked}
use Rattle.tables.specs.TermTable.{terms_of}
use Rattle.tables.specs.LiteralTable.{literals_of}
use Rattle.tables.specs.Read.{tables_read}
use Rattle.tables.specs.declared.Tables.{Tables}
use Rattle.closure.specs.Steps.{begin}
use Rattle.graphs.specs.Layout.{edges_of, labels_of}
use Rattle.running.specs.Shown.{padded, Shows}
use Rattle.running.specs.declared.state.State.{State as Arrays}

-- the tables are read from two byte strings that no row refuses
pub record ReadFrom (t : Tables) : Type 0 where
  pub terms : List ℕ
  pub literals : List ℕ
  pub read : tables_read terms literals ≡ Ok t
  pub sound : checked terms literals ≡ Sound

-- arrays in which nothing is written yet
pub record Blank (s : Arrays) : Type 0 where
  pub symbols : s.symbols ≡ replicate 511 0
  pub arities : s.arities ≡ replicate 511 0
  pub rows : s.rows ≡ replicate 511 (padded [])
  pub colours : s.colours ≡ replicate 511 0
  pub vertices : s.vertices ≡ replicate 511 false
  pub edges : edges_of s.graph ≡ []
  pub count : s.graph.count ≡ 0
  pub labels : s.labels ≡ labels_of []

-- the arrays show the state before the first step
abbrev pub Opens : {t : Tables} → ReadFrom t → Arrays → Type 0
Opens from s = Shows (terms_of from.terms) (literals_of from.literals) begin s

-- How the arrays of the code show a state of a run. Past the terms an array holds 0, or false.
use Rattle.std.specs.Prelude.{false, List, [], ◌∷◌, ◌++◌, ◌≡◌, ℕ, ◌-◌, ◌≤◌, length, replicate}
use Rattle.tables.specs.Terms.{Term, term_at}
use Rattle.tables.specs.declared.Literal.{Literal}
use Rattle.tables.specs.Read.{filled, colour_number}
use Rattle.closure.specs.Steps.{State, table_of, vertex}
use Rattle.graphs.specs.Layout.{edges_of, labels_of}
use Rattle.running.specs.declared.state.State.{State as Arrays}

-- "The arguments are worked on as a row of four for each term": argument fields past the arity are zero
unfoldable pub padded : List ℕ → List ℕ
padded xs = xs ++ replicate (4 - length xs) 0

-- an array with what f says of each term of the table
abbrev pub column {ℓ} : {X : Type ℓ} → X → List Term → (ℕ → X) → List X
column none table f = filled 511 none (length table) f

-- the arrays show the state: its table of given and added terms, their colours, the vertices, the graph and the labels
pub record Shows (ts : List Term) (ls : List Literal) (st : State) (s : Arrays) : Type 0 where
  pub within : length (table_of ts st) ≤ 511
  pub terms : s.terms ≡ length (table_of ts st)
  pub symbols : s.symbols ≡ column 0 (table_of ts st) (λ v. (term_at (table_of ts st) v).symbol)
  pub arities : s.arities ≡ column 0 (table_of ts st) (λ v. length (term_at (table_of ts st) v).arguments)
  pub rows : s.rows ≡ column (padded []) (table_of ts st) (λ v. padded (term_at (table_of ts st) v).arguments)
  pub colours : s.colours ≡ column 0 (table_of ts st) (colour_number ts ls (table_of ts st))
  pub vertices : s.vertices ≡ column false (table_of ts st) (vertex ts ls st)
  pub edges : edges_of s.graph ≡ st.graph
  pub count : s.graph.count ≡ length st.graph
  pub labels : s.labels ≡ labels_of st.graph

-- one added term more
abbrev pub with_term : State → Term → State
with_term st m = record { added = st.added ++ (m ∷ []); graph = st.graph }

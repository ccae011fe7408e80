-- What the search for congruent terms goes by: a key for each term, over the array of labels.
use Rattle.std.specs.Prelude.{Bool, false, cond, not, ◌&&◌, List, [], ◌≡◌, ℕ, ◌+◌, ◌*◌, ◌%◌, ◌≤◌, ◌<◌, T, eqb, length, get_or, take, Option, MatchOption}
use Rattle.tables.specs.Terms.{Term, term_at}
use Rattle.tables.specs.Read.{filled}
use Rattle.closure.specs.Graph.{Graph, joined_pairwise}
use Rattle.running.specs.declared.state.State.{State as Arrays}

-- a row has four fields, and these are numbers of the label array
abbrev pub FieldsWithin : List ℕ → Type 0
FieldsWithin args = (length args ≡ 4) × ((j : ℕ) → j < 4 → get_or args j 0 < 511)

abbrev pub RowsWithin : List (List ℕ) → Type 0
RowsWithin rows = (v : ℕ) → v < 511 → FieldsWithin (get_or rows v [])

-- the label of field j of a row
abbrev pub field_label : List ℕ → List ℕ → ℕ → ℕ
field_label labels args j = get_or labels (get_or args j 0) 0

-- a number that congruent terms have in common: the symbol and the labels of the four fields
unfoldable pub key_of : List ℕ → ℕ → List ℕ → ℕ
key_of labels symbol args =
    symbol + 65536 * (field_label labels args 0 + 512 * (field_label labels args 1 + 512 * (field_label labels args 2 + 512 * field_label labels args 3)))

-- the keys of the terms that are vertices, 0 for others
unfoldable pub keys_of : ℕ → Arrays → List ℕ
unfolding key_of
keys_of given a =
    filled 256 0 given (λ t. cond (get_or a.vertices t false) (key_of a.labels (get_or a.symbols t 0) (get_or a.rows t []) + 1) 0)

-- an end for each residue of a key: a given term stands before the end of its key's residue, and no end is past the given terms
pub record EndsOf (keys : List ℕ) (given : ℕ) (ends : List ℕ) : Type 0 where
  pub before : (t : ℕ) → t < given → t < get_or ends (get_or keys t 0 % 1021) 0
  pub within : (r : ℕ) → get_or ends r 0 ≤ given

-- t may be a partner of s, by what is looked at before the rows are: both have the key of s, its symbol, and not its label
unfoldable pub candidate : List ℕ → Arrays → ℕ → ℕ → Bool
candidate keys a s t =
    not (eqb (get_or keys s 0) 0) &&
    (eqb (get_or keys s 0) (get_or keys t 0) && (eqb (get_or a.symbols s 0) (get_or a.symbols t 0) && not (eqb (get_or a.labels s 0) (get_or a.labels t 0))))

-- t is a partner of s: a candidate whose arguments are joined to those of s
abbrev pub tested : List ℕ → Arrays → Graph → ℕ → ℕ → Bool
tested keys a G s t =
    candidate keys a s t &&
    joined_pairwise G (take (get_or a.arities s 0) (get_or a.rows s [])) (take (get_or a.arities s 0) (get_or a.rows t []))

-- what is found is the first number from a place on, below n, that passes the test; nothing where none does
abbrev pub NextFrom : (ℕ → Bool) → ℕ → ℕ → Option ℕ → Type 0
NextFrom p from n found =
    MatchOption found ((k : ℕ) → from ≤ k → k < n → T (p k) → ⊥) (λ t. (from ≤ t) × (t < n) × T (p t) × ((k : ℕ) → from ≤ k → k < t → T (p k) → ⊥))

-- every row can be looked up, and no arity is over 4
pub record Orderly (a : Arrays) : Type 0 where
  pub rows : RowsWithin a.rows
  pub arities : (v : ℕ) → v < 511 → get_or a.arities v 0 ≤ 4

-- row 4 of the checks: a symbol has one arity
abbrev pub OneArity : List Term → Type 0
OneArity ts = (s t : ℕ) → s < length ts → t < length ts → (term_at ts s).symbol ≡ (term_at ts t).symbol → length (term_at ts s).arguments ≡ length (term_at ts t).arguments

-- 01, "What comes back": the bytes that an answer writes.
use Rattle.std.specs.Prelude.{cond, ◌&&◌, ◌≡◌, ℕ, ◌<◌, T, length, take, drop, unwrap_or}
use mathlib.Core.List.{List, [], ◌∷◌, ◌++◌, flat_map}
use Rattle.tables.specs.Words.{below, first_below}
use Rattle.tables.specs.Bytes.{word_at, record_at, word_bytes}
use Rattle.tables.specs.Terms.{Term}
use Rattle.tables.specs.declared.Literal.{Literal}
use Rattle.tables.specs.Colours.{is_in_use}
use Rattle.closure.specs.Graph.{Graph, joined}
use Rattle.demands.specs.declared.Numbers.{Numbers}

-- the three lent buffers, as bytes
pub record Buffers : Type 0 where
  pub partition : List ℕ
  pub added : List ℕ
  pub clauses : List ℕ

-- what comes back: the answer's numbers, and every byte of the buffers
pub record Returned : Type 0 where
  pub numbers : Numbers
  pub buffers : Buffers

-- "the lowest number of a given term in its class; a term not in use gets 65535"
unfoldable pub class_number : List Term → List Literal → Graph → ℕ → ℕ
class_number ts ls G t =
    let lowest = unwrap_or (first_below (λ u. is_in_use ts ls u && joined G u t) (length ts)) 65535 in
    cond (is_in_use ts ls t) lowest 65535

-- "the partition buffer's first 2n bytes hold, for each of the n terms" that number
unfoldable pub partition_bytes : List Term → List Literal → Graph → List ℕ
partition_bytes ts ls G = flat_map (λ t. word_bytes (class_number ts ls G t)) (below (length ts))

-- "the added terms (16 bytes each ..)": a term record
unfoldable pub term_bytes : Term → List ℕ
term_bytes m =
    word_bytes m.symbol ++ (length m.arguments ∷ 0 ∷ []) ++
    flat_map word_bytes (take 4 (m.arguments ++ (0 ∷ 0 ∷ 0 ∷ 0 ∷ []))) ++
    (0 ∷ 0 ∷ 0 ∷ 0 ∷ [])

-- "bytes past those written .. keep their content"
unfoldable pub written_over : List ℕ → List ℕ → List ℕ
written_over bytes buffer = bytes ++ drop (length bytes) buffer

-- what a reader of the partition buffer takes for the class number of term t
abbrev pub class_at : List ℕ → ℕ → ℕ
class_at buffer t = word_at (record_at 2 buffer t) 0

-- the class number of term t in a partition buffer is the lowest number of a given term in use of its class
pub record LowestInClass (ts : List Term) (ls : List Literal) (buffer : List ℕ) (t : ℕ) : Type 0 where
  pub in_use : T (is_in_use ts ls (class_at buffer t))
  pub in_class : class_at buffer (class_at buffer t) ≡ class_at buffer t
  pub none_lower : (u : ℕ) → u < class_at buffer t → T (is_in_use ts ls u) → class_at buffer u ≡ class_at buffer t → ⊥

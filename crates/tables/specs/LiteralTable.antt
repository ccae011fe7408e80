-- 01: "Literal record, 8 bytes: 0 side (1 = A, 2 = B); 1 kind (1 equal, 2 different); 2-3 left; 4-5 right; 6-7 zero."
use Rattle.std.specs.Prelude.{Bool, true, false, cond, List, map, ℕ, eqb}
use Rattle.tables.specs.Words.{below}
use Rattle.tables.specs.Bytes.{byte_at, word_at, count_of, record_at}
-- a literal is marked A or B, and its sides are equal or different
pub use Rattle.tables.specs.declared.Side.{Side}
pub use Rattle.tables.specs.declared.Side.TheVariants.{A, B}
use Rattle.tables.specs.declared.Kind.{Kind}
use Rattle.tables.specs.declared.Kind.TheVariants.{Equal, Different}
use Rattle.tables.specs.declared.Literal.{Literal}

abbrev pub same_side : Side → Side → Bool
same_side A A = true
same_side A B = false
same_side B A = false
same_side B B = true

abbrev pub is_equal : Kind → Bool
is_equal Equal = true
is_equal Different = false

-- how many literal records the table has
abbrev pub literal_count : List ℕ → ℕ
literal_count bs = count_of 8 bs

-- the bytes of literal record k
abbrev pub literal_record : List ℕ → ℕ → List ℕ
literal_record bs k = record_at 8 bs k

-- the literal that a record describes
unfoldable pub literal_of : List ℕ → Literal
literal_of r =
    let side = cond (eqb (byte_at r 0) 1) A B in
    let kind = cond (eqb (byte_at r 1) 1) Equal Different in
    record { side = side; kind = kind; left = word_at r 2; right = word_at r 4 }

-- the table read, in the order of its records
unfoldable pub literals_of : List ℕ → List Literal
literals_of bs = map (λ k. literal_of (literal_record bs k)) (below (literal_count bs))

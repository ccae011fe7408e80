-- 01, "What comes back", as conditions: when a row of its table refuses, and at which place. No order of looking at things is in them but that of the rows.
use Rattle.std.specs.Prelude.{List, [], ◌∷◌, ◌⊎◌, ◌≡◌, ℕ, ◌%◌, ◌≤◌, ◌<◌, length}
use Rattle.tables.specs.Words.{First}
use Rattle.tables.specs.Bytes.{byte_at, word_at}
use Rattle.tables.specs.TermTable.{term_count, term_record, symbol_field, arity_field, argument_field}
use Rattle.tables.specs.LiteralTable.{literal_count, literal_record}

-- a row of the table: its number, and what has to hold for it to refuse at a place
pub record Row : Type 1 where
  pub number : ℕ
  pub At : ℕ → Type 0

abbrev pub row : ℕ → (ℕ → Type 0) → Row
row number At = record { number = number; At = At }

-- "Checks run in the order of the rows, each over its whole table before the next": the first row that names a place refuses there
abbrev pub Refuses : List Row → ℕ → ℕ → Type 0
Refuses [] number place = ⊥
Refuses (r ∷ rs) number place =
    ((number ≡ r.number) × r.At place) ⊎ (((p : ℕ) → r.At p → ⊥) × Refuses rs number place)

-- "in rows 1, 2 and 7 the lower place first": 0 where the terms are such, 1 where only the literals are
abbrev pub LowerPlace : Type 0 → Type 0 → ℕ → Type 0
LowerPlace Terms Literals place = ((place ≡ 0) × Terms) ⊎ ((place ≡ 1) × (Terms → ⊥) × Literals)

-- row 3, "a term record breaks its layout": how the bytes of term record k do
pub data LayoutFault (k : ℕ) (r : List ℕ) : Type 0 where
  -- "2 arity (0 to 4)"
  arity_over_four : 4 < arity_field r → LayoutFault k r
  -- "3 zero", "12-15 zero"
  byte_three : (byte_at r 3 ≡ 0 → ⊥) → LayoutFault k r
  last_bytes : (i : ℕ) → 12 ≤ i → i < 16 → (byte_at r i ≡ 0 → ⊥) → LayoutFault k r
  -- "Every argument is lower than the record's own number."
  argument_not_lower : (j : ℕ) → j < 4 → j < arity_field r → k ≤ argument_field r j → LayoutFault k r
  -- "Argument fields past the arity are zero."
  unused_field_not_zero : (j : ℕ) → j < 4 → arity_field r ≤ j → (argument_field r j ≡ 0 → ⊥) → LayoutFault k r

-- row 4: "a symbol had another arity in an earlier record"
abbrev pub OtherArity : List ℕ → List ℕ → Type 0
OtherArity r s = (symbol_field r ≡ symbol_field s) × (arity_field r ≡ arity_field s → ⊥)

abbrev pub HadOtherArity : List ℕ → ℕ → Type 0
HadOtherArity ts k = (j : ℕ) × (j < k) × OtherArity (term_record ts j) (term_record ts k)

-- row 5: "a term record equals an earlier one"
abbrev pub EqualsEarlier : List ℕ → ℕ → Type 0
EqualsEarlier ts k = (j : ℕ) × (j < k) × (term_record ts j ≡ term_record ts k)

-- row 6, "side or kind not 1 or 2, a term number not in the table, bytes 6-7 not zero", of a literal record in a table of n terms
pub data LiteralFault (n : ℕ) (r : List ℕ) : Type 0 where
  side_not_one_or_two : (byte_at r 0 ≡ 1 → ⊥) → (byte_at r 0 ≡ 2 → ⊥) → LiteralFault n r
  kind_not_one_or_two : (byte_at r 1 ≡ 1 → ⊥) → (byte_at r 1 ≡ 2 → ⊥) → LiteralFault n r
  left_not_in_table : n ≤ word_at r 2 → LiteralFault n r
  right_not_in_table : n ≤ word_at r 4 → LiteralFault n r
  byte_six : (byte_at r 6 ≡ 0 → ⊥) → LiteralFault n r
  byte_seven : (byte_at r 7 ≡ 0 → ⊥) → LiteralFault n r

-- rows 1 to 6, of the two tables; in rows 3 to 6 the place is "first such record"
abbrev pub table_rows : List ℕ → List ℕ → List Row
table_rows ts ls =
    row 1 (LowerPlace (length ts % 16 ≡ 0 → ⊥) (length ls % 8 ≡ 0 → ⊥)) ∷
    row 2 (LowerPlace (256 < term_count ts) (1024 < literal_count ls)) ∷
    row 3 (First (λ k. LayoutFault k (term_record ts k)) (term_count ts)) ∷
    row 4 (First (HadOtherArity ts) (term_count ts)) ∷
    row 5 (First (EqualsEarlier ts) (term_count ts)) ∷
    row 6 (First (λ k. LiteralFault (term_count ts) (literal_record ls k)) (literal_count ls)) ∷
    []

-- none of them refuses the tables
abbrev pub Accepted : List ℕ → List ℕ → Type 0
Accepted ts ls = (number place : ℕ) → Refuses (table_rows ts ls) number place → ⊥

-- 01: "Term record, 16 bytes: 0-1 symbol; 2 arity (0 to 4); 3 zero; 4-5, 6-7, 8-9, 10-11 the arguments, as term numbers; 12-15 zero."
use Rattle.std.specs.Prelude.{List, [], ◌∷◌, map, ℕ, ◌+◌, ◌*◌, take}
use Rattle.tables.specs.Words.{below}
use Rattle.tables.specs.Bytes.{byte_at, word_at, count_of, record_at}
use Rattle.tables.specs.Terms.{Term}

-- how many term records the table has
abbrev pub term_count : List ℕ → ℕ
term_count bs = count_of 16 bs

-- the bytes of term record k
abbrev pub term_record : List ℕ → ℕ → List ℕ
term_record bs k = record_at 16 bs k

-- the fields of one record
abbrev pub symbol_field : List ℕ → ℕ
symbol_field r = word_at r 0

abbrev pub arity_field : List ℕ → ℕ
arity_field r = byte_at r 2

abbrev pub argument_field : List ℕ → ℕ → ℕ
argument_field r j = word_at r (4 + 2 * j)

-- "The arguments are worked on as a row of four for each term."
unfoldable pub row_of : List ℕ → List ℕ
row_of r = map (argument_field r) (0 ∷ 1 ∷ 2 ∷ 3 ∷ [])

-- the term that a record describes: its symbol over the used fields of its row
unfoldable pub term_of : List ℕ → Term
term_of r = record { symbol = symbol_field r; arguments = take (arity_field r) (row_of r) }

-- the table read: "The term's number is its place from 0."
unfoldable pub terms_of : List ℕ → List Term
terms_of bs = map (λ k. term_of (term_record bs k)) (below (term_count bs))

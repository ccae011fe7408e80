-- What rows 4 and 5 compare in place of the bytes of two records: the columns of the symbols and the arities, and a key for each record.
use Rattle.std.specs.Prelude.{Bool, not, ◌&&◌, List, ℕ, ◌+◌, ◌*◌, eqb, get_or}
use Rattle.tables.specs.Bytes.{word_at}
use Rattle.tables.specs.TermTable.{term_count, term_record}
use Rattle.tables.specs.Read.{filled}

-- term j has the symbol of term k and another arity
abbrev pub other_arity_in : List ℕ → List ℕ → ℕ → ℕ → Bool
other_arity_in symbols arities k j = eqb (get_or symbols j 0) (get_or symbols k 0) && not (eqb (get_or arities j 0) (get_or arities k 0))

-- the symbol and the four arguments of a record as one number. Nothing rests on it that two records have two keys: where the keys
-- agree, the bytes decide.
unfoldable pub record_key : List ℕ → ℕ
record_key r = word_at r 0 + 65536 * (word_at r 4 + 256 * (word_at r 6 + 256 * (word_at r 8 + 256 * word_at r 10)))

-- the keys of all records
unfoldable pub record_keys : List ℕ → List ℕ
unfolding record_key
record_keys bs = filled 256 0 (term_count bs) (λ k. record_key (term_record bs k))

-- record j has the key of record k
abbrev pub same_key : List ℕ → ℕ → ℕ → Bool
same_key keys k j = eqb (get_or keys j 0) (get_or keys k 0)

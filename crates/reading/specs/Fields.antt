-- The fields of a literal record, as the code hands them on.
use Rattle.std.specs.Prelude.{List, ℕ}
use Rattle.tables.specs.Bytes.{byte_at, word_at}
use Rattle.reading.specs.declared.literal.Fields.{Fields}

-- "0 side (1 = A, 2 = B); 1 kind (1 equal, 2 different); 2-3 left; 4-5 right"
abbrev pub fields_of : List ℕ → Fields
fields_of r = record { side = byte_at r 0; kind = byte_at r 1; left = word_at r 2; right = word_at r 4 }

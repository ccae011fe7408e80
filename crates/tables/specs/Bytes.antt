-- 01: "Records of one fixed size, no header, numbers little-endian." A table is the list of its bytes.
use mathlib.Core.List.{List, [], ◌∷◌, Memᴰ}
use Rattle.std.specs.Prelude.{ℕ, ◌+◌, ◌*◌, ◌/◌, ◌%◌, ◌<◌, length, get_or, take, drop}

-- the byte at a place
abbrev pub byte_at : List ℕ → ℕ → ℕ
byte_at bs i = get_or bs i 0

-- the number of two bytes at a place, the low byte first
abbrev pub word_at : List ℕ → ℕ → ℕ
word_at bs i = byte_at bs i + 256 * byte_at bs (i + 1)

-- how many whole records of a size there are
abbrev pub count_of : ℕ → List ℕ → ℕ
count_of size bs = length bs / size

-- "The term's number is its place from 0": the bytes of record k
abbrev pub record_at : ℕ → List ℕ → ℕ → List ℕ
record_at size bs k = take size (drop (size * k) bs)

-- a number below 65536 as two bytes, the low one first
abbrev pub word_bytes : ℕ → List ℕ
word_bytes n = n % 256 ∷ n / 256 % 256 ∷ []

-- the numbers of a list are bytes, as those of every slice are
abbrev pub AllBytes : List ℕ → Type 0
AllBytes bs = (b : ℕ) → Memᴰ b bs → b < 256

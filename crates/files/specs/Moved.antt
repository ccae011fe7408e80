-- What reading and writing do to the bytes that a reader has left and a writer holds, where those are known.
use Rattle.std.specs.Prelude.{ℕ, ◌<◌, List, length, take, Option, IfSome}
use Rattle.std.specs.Io.KnownBytes.{Consumes, IsAtEnd}

-- the bytes that count as read are the reader's next ones, in their order, and fewer than the buffer holds only where none is left
abbrev pub CameFrom : Option (List ℕ) → Option (List ℕ) → Option ℕ → List ℕ → Type 0
CameFrom old new came buffer = IfSome came (λ n. Consumes old new (take n buffer) × (n < length buffer → IsAtEnd new))

-- What reading into a buffer may come to.
use Rattle.std.specs.Prelude.{ℕ, ◌≤◌, Option, IfSome}

-- no more bytes are read than the buffer has
abbrev pub Within : ℕ → Option ℕ → Type 0
Within size came = IfSome came (λ n. n ≤ size)

-- What follows a call of read or write, where so many interrupted calls are still borne and so many bytes went through before.
use Rattle.std.specs.Prelude.{ℕ, zero, suc, Some, None, Result, Ok, Err}
use Rattle.std.specs.IoError.{error_kind}
use Rattle.std.specs.declared.io.Error.{Error}
use Rattle.std.specs.declared.io.ErrorKind.{ErrorKind}
use Rattle.std.specs.declared.io.ErrorKind.TheVariants.{Interrupted}
use Rattle.files.specs.declared.calls.Next.{Next}
use Rattle.files.specs.declared.calls.Next.TheVariants.{On, Again, Stop}

-- a call that failed is made again only where a signal came before any byte went through, and only so often; else nothing counts as read
abbrev pub failure : ErrorKind → ℕ → Next
failure Interrupted (suc left) = Again
failure Interrupted zero = Stop None
failure kind left = Stop None

-- an answer above 0: so many bytes went through; 0: the end; an error: a failure
unfoldable pub next_of : Result ℕ Error → ℕ → ℕ → Next
next_of (Ok (suc n)) left done = On (suc n)
next_of (Ok zero) left done = Stop (Some done)
next_of (Err e) left done = failure (error_kind e) left

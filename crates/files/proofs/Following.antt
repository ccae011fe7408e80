-- What is known of a call of read or write by what follows it.
use Rattle.std.proofs.Common.{◌≡◌, ℕ, zero, suc, ◌+◌, ◌-◌, ◌^◌, ◌≤◌, ◌<◌, List, length, take, drop, refl, sym, subst, arith}
use Rattle.std.specs.Prelude.{Option, Some, None, Result, Ok, Err, IfOk}
use Rattle.std.specs.Io.{ReadsAtMost, WritesAtMost}
use Rattle.std.specs.IoError.{error_kind}
use Rattle.std.specs.declared.io.Error.{Error}
use Rattle.std.specs.declared.io.ErrorKind.{ErrorKind}
use Rattle.std.specs.declared.io.ErrorKind.TheVariants.{Interrupted}
use lib.ListN.{length-take, length-drop}
use Rattle.files.specs.Within.{Within}
use Rattle.files.specs.Calls.{failure, next_of}
use Rattle.files.specs.declared.calls.Next.{Next}
use Rattle.files.specs.declared.calls.Next.TheVariants.{On, Again, Stop}

-- bytes went through, one more interruption is borne, the end was reached, or no more is said
abbrev pub Told : Result ℕ Error → ℕ → ℕ → Next → Type 0
Told called left done (On n) = (called ≡ Ok n) × (0 < n)
Told called left done Again = 0 < left
Told called left done (Stop (Some n)) = (called ≡ Ok 0) × (n ≡ done)
Told called left done (Stop None) = Unit {0}

told_failure : (e : Error) (kind : ErrorKind) (left done : ℕ) → Told (Err e) left done (failure kind left)
told_failure e Interrupted (suc left) done = omega arith
told_failure e Interrupted zero done = tt
told_failure e kind left done = tt

told : (called : Result ℕ Error) (left done : ℕ) → Told called left done (next_of called left done)
unfolding next_of
told (Ok (suc n)) left done = (refl, omega arith)
told (Ok zero) left done = (refl, refl)
told (Err e) left done = told_failure e (error_kind e) left done

pub follows : (called : Result ℕ Error) (left done : ℕ) (next : Next) → next ≡ next_of called left done → Told called left done next
follows called left done next e = subst (Told called left done) (sym e) (told called left done)

-- bytes that went through: at least one, and no more than there was room for
pub some : (most n : ℕ) (called : Result ℕ Error) (left done : ℕ) → IfOk called (λ k. k ≤ most) → On n ≡ next_of called left done → (0 < n) × (n ≤ most)
some most n called left done m e =
    let t = follows called left done (On n) e in
    (t.1, subst (λ r. IfOk r (λ k. k ≤ most)) t.0 m)

-- how many bytes there are from done on
pub part_length : (bytes : List ℕ) (done : ℕ) → length (take (length bytes - done) (drop done bytes)) ≡ length bytes - done
part_length bytes done = simp (length-take, length-drop) (omega arith)

-- bytes that were written: at least one, and no more than there was room for
pub some_written : (part : List ℕ) (n left done : ℕ) (called : Result ℕ Error) → WritesAtMost called part → On n ≡ next_of called left done → (0 < n) × (n ≤ length part)
some_written part n left done called h e = some (length part) n called left done h e

-- bytes that were read, likewise
pub some_read : (part : List ℕ) (n left done : ℕ) (called : Result ℕ Error) → ReadsAtMost called part → On n ≡ next_of called left done → (0 < n) × (n ≤ length part)
some_read part n left done called h e =
    let t = follows called left done (On n) e in
    (t.1, (subst (λ r. ReadsAtMost r part) t.0 h).0)

-- the same of a call on the bytes from done on, as the loops have it
pub nearer :
    (bytes : List ℕ) (done n : ℕ) (called : Result ℕ Error) (left : ℕ) → done < length bytes → length bytes < 2 ^ 63 →
    IfOk called (λ k. k ≤ length (take (length bytes - done) (drop done bytes))) → On n ≡ next_of called left done → (0 < n) × (done + n ≤ length bytes)
nearer bytes done n called left room small m e =
    let l = part_length bytes done in
    let h = some (length (take (length bytes - done) (drop done bytes))) n called left done m e in
    (omega arith, omega arith)

-- a call is made again only where one more interruption is borne
pub borne : (called : Result ℕ Error) (left done : ℕ) → Again ≡ next_of called left done → 0 < left
borne called left done e = follows called left done Again e

-- what a stop leaves is what went through before, or nothing
pub stopped : (size : ℕ) (came : Option ℕ) (called : Result ℕ Error) (left done : ℕ) → done ≤ size → Stop came ≡ next_of called left done → Within size came
stopped size (Some n) called left done h e = let t = (follows called left done (Stop (Some n)) e).1 in omega arith
stopped size None called left done h e = tt

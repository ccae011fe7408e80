-- What the loops of `fill` and `put` carry on from call to call: the bytes that were moved so far, joined with those of one call more.
use Rattle.std.proofs.Common.{◌≡◌, ℕ, zero, suc, ◌+◌, ◌-◌, ◌≤◌, ◌<◌, List, ◌++◌, length, take, drop, refl, sym, ap, ◌∙◌, subst, arith, append-nil}
use Rattle.std.specs.Prelude.{Option, Some, None, Result, Ok, Err}
use Rattle.std.specs.Io.KnownBytes.{Appends, Consumes, IsAtEnd, ReadConsumes, WriteAppends}
use Rattle.std.specs.Io.{ReadsAtMost, WritesAtMost}
use Rattle.std.specs.IoError.{error_kind}
use Rattle.std.specs.declared.io.Error.{Error}
use Rattle.std.specs.declared.io.ErrorKind.{ErrorKind}
use Rattle.std.specs.declared.io.ErrorKind.TheVariants.{Interrupted}
use Rattle.std.proofs.KnownBytes.{Appends-trans, Appends-kept, Consumes-trans, Consumes-kept}
use Rattle.std.proofs.lemmas.Slice.{take-put_mid_below}
use Rattle.std.proofs.lemmas.List.{take-append-le}
use Rattle.std.proofs.Math.Seq.{take-add}
use lib.Seq.{take-take, drop_at, length-take-le}
use borrow.Rule.Slice.PartMut.{put_mid, post_of}
use Rattle.files.specs.Calls.{failure, next_of}
use Rattle.files.specs.Moved.{CameFrom}
use Rattle.files.specs.declared.calls.Next.{Next}
use Rattle.files.specs.declared.calls.Next.TheVariants.{On, Again, Stop}
use Rattle.files.proofs.Following.{follows, part_length}

-- how many bytes went through, by what follows a call, where done went through before it
abbrev pub reached : ℕ → Next → ℕ
reached done (On n) = done + n
reached done Again = done
reached done (Stop came) = done

-- a call that failed moved nothing
failed : (kind : ErrorKind) (left done : ℕ) → done ≡ reached done (failure kind left)
failed Interrupted (suc left) done = refl
failed Interrupted zero done = refl
failed kind left done = refl

-- ---- writing

-- a part from done on, up to n of its bytes
on_from : (bytes : List ℕ) (done n : ℕ) → n ≤ length bytes - done → take done bytes ++ take n (take (length bytes - done) (drop done bytes)) ≡ take (done + n) bytes
on_from bytes done n h = ap (λ l. take done bytes ++ l) (take-take n (length bytes - done) (drop done bytes) h) ∙ sym (take-add done n bytes)

-- what a call wrote of the bytes from done on stands behind what was written before
written_next :
    (old mid new : Option (List ℕ)) (bytes : List ℕ) (left done : ℕ) (called : Result ℕ Error) → WritesAtMost called (take (length bytes - done) (drop done bytes)) →
    Appends old mid (take done bytes) → WriteAppends mid new called (take (length bytes - done) (drop done bytes)) →
    Appends old new (take (reached done (next_of called left done)) bytes)
unfolding next_of
written_next old mid new bytes left done (Ok (suc n)) h p q =
    let l = part_length bytes done in
    subst (Appends old new) (on_from bytes done (suc n) (omega arith)) (Appends-trans old mid new (take done bytes) (take (suc n) (take (length bytes - done) (drop done bytes))) p q)
written_next old mid new bytes left done (Ok zero) h p q =
    subst (Appends old new) (append-nil (take done bytes)) (Appends-trans old mid new (take done bytes) (take 0 (take (length bytes - done) (drop done bytes))) p q)
written_next old mid new bytes left done (Err e) h p q =
    subst (λ m. Appends old new (take m bytes)) (failed (error_kind e) left done) (Appends-kept old mid new (take done bytes) p q)

pub written :
    (old mid new : Option (List ℕ)) (bytes : List ℕ) (left done : ℕ) (called : Result ℕ Error) (next : Next) → next ≡ next_of called left done →
    WritesAtMost called (take (length bytes - done) (drop done bytes)) → Appends old mid (take done bytes) →
    WriteAppends mid new called (take (length bytes - done) (drop done bytes)) → Appends old new (take (reached done next) bytes)
written old mid new bytes left done called next e h p q =
    subst (λ x. Appends old new (take (reached done x) bytes)) (sym e) (written_next old mid new bytes left done called h p q)

-- ---- reading

-- a buffer's first bytes, after a part from done on was read
filled : (buffer part : List ℕ) (done size n : ℕ) → done ≤ length buffer → n ≤ length part → take done buffer ++ take n part ≡ take (done + n) (put_mid done size buffer part)
filled buffer part done size n within h =
    let whole = put_mid done size buffer part in
    let behind = drop_at (take done buffer) (part ++ post_of done size buffer) done (length-take-le done buffer within) in
    sym (take-add done n whole
    ∙ ap (λ l. l ++ take n (drop done whole)) (take-put_mid_below done size buffer part done (omega arith) within)
    ∙ ap (λ l. take done buffer ++ take n l) behind
    ∙ ap (λ l. take done buffer ++ l) (take-append-le n part (post_of done size buffer) h))

-- what a call read into the part from done on stands behind what was read before
came_next :
    (old mid new : Option (List ℕ)) (buffer part : List ℕ) (size left done : ℕ) (called : Result ℕ Error) → done ≤ length buffer → ReadsAtMost called part →
    Consumes old mid (take done buffer) → ReadConsumes mid new called part →
    Consumes old new (take (reached done (next_of called left done)) (put_mid done size buffer part))
unfolding next_of
came_next old mid new buffer part size left done (Ok (suc n)) within h p q =
    subst (Consumes old new) (filled buffer part done size (suc n) within h.0) (Consumes-trans old mid new (take done buffer) (take (suc n) part) p q.0)
came_next old mid new buffer part size left done (Ok zero) within h p q =
    subst (Consumes old new) (append-nil (take done buffer) ∙ sym (take-put_mid_below done size buffer part done (omega arith) within))
    (Consumes-trans old mid new (take done buffer) (take 0 part) p q.0)
came_next old mid new buffer part size left done (Err e) within h p q =
    subst (Consumes old new) (sym (take-put_mid_below done size buffer part done (omega arith) within) ∙ ap (λ m. take m (put_mid done size buffer part)) (failed (error_kind e) left done))
    (Consumes-kept old mid new (take done buffer) p q)

pub came :
    (old mid new : Option (List ℕ)) (buffer part : List ℕ) (size left done : ℕ) (called : Result ℕ Error) (next : Next) → next ≡ next_of called left done →
    done ≤ length buffer → ReadsAtMost called part → Consumes old mid (take done buffer) → ReadConsumes mid new called part →
    Consumes old new (take (reached done next) (put_mid done size buffer part))
came old mid new buffer part size left done called next e within h p q =
    subst (λ x. Consumes old new (take (reached done x) (put_mid done size buffer part))) (sym e) (came_next old mid new buffer part size left done called within h p q)

-- a call that ends the loop: what came before stands in the buffer, and the reader is at its end, or nothing counts as read
pub stop :
    (old mid new : Option (List ℕ)) (buffer part : List ℕ) (size left done : ℕ) (called : Result ℕ Error) (end : Option ℕ) → Stop end ≡ next_of called left done →
    done ≤ length buffer → 0 < length part → ReadsAtMost called part → Consumes old mid (take done buffer) → ReadConsumes mid new called part →
    CameFrom old new end (put_mid done size buffer part)
stop old mid new buffer part size left done called None e within room h p q = tt
stop old mid new buffer part size left done called (Some n) e within room h p q =
    let t = follows called left done (Stop (Some n)) e in
    let end : Consumes mid new (take 0 part) × (◌≡◌ {A = ℕ} 0 0 → 0 < length part → IsAtEnd new) = subst (λ r. ReadConsumes mid new r part) t.0 q in
    (subst (λ m. Consumes old new (take m (put_mid done size buffer part))) (sym t.1) (came old mid new buffer part size left done called (Stop (Some n)) e within h p q), λ _. end.1 refl room)

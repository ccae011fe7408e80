-- Loops that write records of one size one behind the other, over what a lent buffer holds.
use mathlib.Core.List.{List, ◌++◌, flat_map}
use mathlib.Core.Path.{◌≡◌, sym, ap, ap₂, ◌∙◌}
use Prim.Native.Nat.{ℕ, ◌+◌, ◌*◌, ◌≤◌}
use native.Mathlib.Omega.{arith}
use lib.ListN.{length, take, drop, length-append}
use lib.Seq.{paste, take_at, take-length, drop-append-add, drop-drop, length-take-le}
use Rattle.tables.specs.Words.{below}
use Rattle.tables.proofs.Words.{length_below, flat_map_below_none, flat_map_below_more}
use Rattle.tables.proofs.WordBytes.{records_length}
use Rattle.demands.specs.Buffers.{written_over}

-- a whole copy at a place is written over what stood there
pub paste_all : (d : List ℕ) (at : ℕ) (s : List ℕ) → at ≤ length d → paste d at s (length s) ≡ written_over (take at d ++ s) d
unfolding written_over
paste_all d at s h =
    ap₂ (λ (xs : List ℕ) (k : ℕ). take at d ++ xs ++ drop k d) (take-length s)
    (sym (length-append (take at d) s ∙ ap (λ (k : ℕ). k + length s) (length-take-le at d h)))

-- bytes put behind those that are written already
pub over_more : (bytes more buffer out : List ℕ) (at : ℕ) → length bytes ≡ at → out ≡ written_over bytes buffer → written_over (take at out ++ more) out ≡ written_over (bytes ++ more) buffer
unfolding written_over
over_more bytes more buffer out at h e =
    let rest = drop (length bytes) buffer in
    ap (λ (l : List ℕ). take at l ++ more ++ drop (length (take at l ++ more)) l) e ∙
    ap (λ (front : List ℕ). front ++ more ++ drop (length (front ++ more)) (bytes ++ rest)) (take_at bytes rest at h) ∙
    ap (λ (l : List ℕ). bytes ++ more ++ l)
    (ap (λ (k : ℕ). drop k (bytes ++ rest)) (length-append bytes more) ∙
    drop-append-add bytes rest (length more) ∙
    drop-drop (length more) (length bytes) buffer ∙
    ap (λ (k : ℕ). drop k buffer) (sym (length-append bytes more)))

-- the first i records are written
abbrev pub Written : (ℕ → List ℕ) → ℕ → List ℕ → List ℕ → Type 0
Written f i buffer out = out ≡ written_over (flat_map f (below i)) buffer

-- nothing is written yet
pub written_none : (f : ℕ → List ℕ) (buffer : List ℕ) → Written f 0 buffer buffer
unfolding written_over
written_none f buffer = sym (ap (λ (l : List ℕ). written_over l buffer) (flat_map_below_none f))

-- the first i records, of one size, have so many bytes
pub length_first : (size : ℕ) (f : ℕ → List ℕ) → ((k : ℕ) → length (f k) ≡ size) → (i : ℕ) → length (flat_map f (below i)) ≡ size * i
length_first size f sized i = records_length size f (below i) (λ k m. sized k) ∙ ap (λ (k : ℕ). size * k) (length_below i)

-- the next record is written at its place
pub written_more : (size : ℕ) (f : ℕ → List ℕ) → ((k : ℕ) → length (f k) ≡ size) → (i : ℕ) (buffer out next bytes : List ℕ) → Written f i buffer out → next ≡ written_over (take (size * i) out ++ bytes) out → bytes ≡ f i → Written f (i + 1) buffer next
written_more size f sized i buffer out next bytes w e same =
    e ∙ ap (λ (r : List ℕ). written_over (take (size * i) out ++ r) out) same ∙
    over_more (flat_map f (below i)) (f i) buffer out (size * i) (length_first size f sized i) w ∙
    ap (λ (l : List ℕ). written_over l buffer)
    (sym (flat_map_below_more f i))

-- all records are written
pub written_all : (f : ℕ → List ℕ) (i n : ℕ) (buffer out all : List ℕ) → Written f i buffer out → i ≤ n → n ≤ i → flat_map f (below n) ≡ all → out ≡ written_over all buffer
written_all f i n buffer out all w l h e =
    let same : i ≡ n = omega arith in
    w ∙ ap (λ (bytes : List ℕ). written_over bytes buffer) (ap (λ (k : ℕ). flat_map f (below k)) same ∙ e)

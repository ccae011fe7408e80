-- Laws of the page: texts one behind the other are one text, and a text written from the start is shown.
use mathlib.Core.Bool.{cond}
use mathlib.Core.List.{List, [], ◌∷◌, ◌++◌}
use mathlib.Core.Logic.{⊎_elim}
use mathlib.Core.Path.{◌≡◌, refl, sym, ap, ap₂, ◌∙◌}
use Prim.Native.Nat.{ℕ, suc, ◌+◌, ◌≤◌, ◌<◌}
use native.Mathlib.Nat.{zero-min, min-zero, suc-min-suc}
use native.Mathlib.Numerals.{add-one}
use native.Mathlib.Omega.{arith}
use lib.Dec.{ltb}
use lib.ListN.{length, set, take, drop, get_or}
use lib.Seq.{take-length, take-suc, set_out}
use borrow.Author.Tests.{lt-ltb, le-ltb}
use Rattle.tables.proofs.Words.{below_or_not}
use Rattle.report.specs.Page.{Page, page, put, puts, shown}
use Rattle.report.specs.Writer.{Writes}
use Rattle.report.specs.declared.writer.Writer.{Writer}

-- a text behind a text
pub puts_append : (p : Page) (xs ys : List ℕ) → puts p (xs ++ ys) ≡ puts (puts p xs) ys
unfolding puts
puts_append p [] ys = refl
puts_append p (x ∷ xs) ys = puts_append (put p x) xs ys

-- one byte more of a text
pub byte_more : (text : List ℕ) (i : ℕ) → i < length text → take (i + 1) text ≡ take i text ++ (get_or text i 0 ∷ [])
byte_more text i l = rw (add-one) (take-suc text i 0 l)

-- a byte where there is room
pub put_inside : (out : List ℕ) (at b : ℕ) → at < length out → page (set out at b) (at + 1) ≡ puts (page out at) (b ∷ [])
unfolding puts
put_inside out at b h = simp (lt-ltb at (length out) h)

-- a byte on a full page
pub put_outside : (out : List ℕ) (at b : ℕ) → length out ≤ at → page out at ≡ puts (page out at) (b ∷ [])
unfolding puts
put_outside out at b h = simp (le-ltb at (length out) h, set_out out at b h)

-- the front of a page that is passed stays,
behind_put : (x : ℕ) (p : Page) (b : ℕ) → put (page (x ∷ p.bytes) (suc p.at)) b ≡ page (x ∷ (put p b).bytes) (suc (put p b).at)
behind_put x p b = ap (page (x ∷ set p.bytes p.at b)) (⊎_elim inside outside (below_or_not p.at (length p.bytes)))
  where
    inside : p.at < length p.bytes → cond (ltb (suc p.at) (suc (length p.bytes))) (suc p.at + 1) (suc p.at) ≡ suc (cond (ltb p.at (length p.bytes)) (p.at + 1) p.at)
    inside h = simp (lt-ltb (suc p.at) (suc (length p.bytes)) (omega arith), lt-ltb p.at (length p.bytes) h) (omega arith)

    outside : length p.bytes ≤ p.at → cond (ltb (suc p.at) (suc (length p.bytes))) (suc p.at + 1) (suc p.at) ≡ suc (cond (ltb p.at (length p.bytes)) (p.at + 1) p.at)
    outside h = simp (le-ltb (suc p.at) (suc (length p.bytes)) (omega arith), le-ltb p.at (length p.bytes) h)

-- whatever is written behind it
behind : (x : ℕ) (p : Page) (text : List ℕ) → puts (page (x ∷ p.bytes) (suc p.at)) text ≡ page (x ∷ (puts p text).bytes) (suc (puts p text).at)
unfolding puts
behind x p [] = refl
behind x p (b ∷ bs) = ap (λ (w : Page). puts w bs) (behind_put x p b) ∙ behind x (put p b) bs

-- nothing is written on an empty page
full : (text : List ℕ) → puts (page [] 0) text ≡ page [] 0
unfolding puts
full [] = refl
full (b ∷ bs) = full bs

-- a text written from the start of a buffer is shown in it
pub puts_shown : (text out : List ℕ) → puts (page out 0) text ≡ shown text out
unfolding puts
puts_shown [] out = ap₂ page (sym (take-length out)) (sym (zero-min (length out)))
puts_shown (b ∷ bs) [] = full (b ∷ bs) ∙ ap (page []) (sym (min-zero (suc (length bs))))
puts_shown (b ∷ bs) (x ∷ xs) =
    ap (λ (next : ℕ). puts (page (b ∷ xs) next) bs) (first (length xs)) ∙ behind b (page xs 0) bs ∙ ap (λ (w : Page). page (b ∷ w.bytes) (suc w.at)) (puts_shown bs xs) ∙
    ap (page (b ∷ take (length xs) (bs ++ drop (length bs) xs))) (sym (suc-min-suc (length bs) (length xs)))
  where
    first : (n : ℕ) → cond (ltb 0 (suc n)) (0 + 1) 0 ≡ 1
    first n = simp (lt-ltb 0 (suc n) (omega arith))

-- a text written from the start of a buffer is shown in it, under another name too
pub shown_as : (text buffer : List ℕ) (before after : Writer) {xs final : List ℕ} → text ≡ xs → final ≡ after.out.now → before.out.now ≡ buffer → before.at ≡ 0 → Writes before after xs → page final after.at ≡ shown text buffer
shown_as text buffer before after e f b a w = rw (f, e, w.1, b, a) (puts_shown _ buffer)

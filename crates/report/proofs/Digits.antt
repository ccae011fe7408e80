-- Laws of decimal numbers.
use mathlib.Core.List.Memᴰ
use mathlib.Core.List.{List, [], ◌∷◌, ◌++◌, Memᴰ}
use mathlib.Core.Logic.{⊎_elim}
use mathlib.Core.Path.{◌≡◌, refl, sym, ap, subst, ◌∙◌}
use Prim.Native.Nat.{ℕ, zero, suc, ◌+◌, ◌*◌, ◌-◌, ◌/◌, ◌%◌, ◌^◌, ◌≤◌, ◌<◌}
use native.Mathlib.Nat.{pow-suc}
use native.Mathlib.Omega.{arith}
use lib.ListN.{length, get_or, length-append, get_or-append}
use borrow.Author.Tests.{lt-ltb, le-ltb}
use Rattle.tables.proofs.Words.{below_or_not}
use Rattle.std.specs.Fmt.{decimal as std_decimal}
use Rattle.std.proofs.lemmas.Fmt.{decimal_from_appends, length-decimal-le}
use Rattle.report.specs.Text.{digits, decimal}

-- ---- the digits that std prints

-- the digits, at most so many
at_most : ℕ → ℕ → List ℕ
at_most zero n = []
at_most (suc k) n = digits k n

-- a digit is its own number
one_digit : (k n : ℕ) → n < 10 → digits k n ≡ (48 + n) ∷ []
unfolding digits
one_digit zero n h = ap (λ (d : ℕ). (48 + d) ∷ []) (omega arith)
one_digit (suc k) n h = rw (lt-ltb n 10 h) (ap (λ (d : ℕ). (48 + d) ∷ []) (omega arith))

-- other numbers end with their last digit
last_behind : (k n : ℕ) → 10 ≤ n → digits k n ≡ at_most k (n / 10) ++ ((48 + n % 10) ∷ [])
unfolding at_most digits
last_behind zero n h = refl
last_behind (suc k) n h = rw (le-ltb n 10 h)

-- so they are what std prints of a number
pub as_std : (n : ℕ) → n < 2 ^ 64 → std_decimal n ≡ decimal n
unfolding at_most
as_std n h = sym (decimal_from_appends at_most (record { one = one_digit; more = last_behind }) 20 n h (length-decimal-le 20 n (omega arith) (omega arith) h))

-- ---- what a reader makes of the digits

-- the number that digits behind a number stand for
pub value_from : ℕ → List ℕ → ℕ
value_from v [] = v
value_from v (d ∷ ds) = value_from (10 * v + (d - 48)) ds

-- the last digit counts one, all others ten times as much
value_last : (v : ℕ) (ds : List ℕ) (d : ℕ) → value_from v (ds ++ (d ∷ [])) ≡ 10 * value_from v ds + (d - 48)
unfolding value_from
value_last v [] d = refl
value_last v (e ∷ ds) d = value_last (10 * v + (e - 48)) ds d

-- the digits of a number by cases: it is below 10 and its own digit, or its last digit stands behind those of a tenth
pub by_size {ℓ} : (k n : ℕ) (C : List ℕ → Type ℓ) → (n < 10 → C ((48 + n % 10) ∷ [])) → (10 ≤ n → C (digits k (n / 10) ++ ((48 + n % 10) ∷ []))) → C (digits (suc k) n)
unfolding digits
by_size k n C f g = ⊎_elim (λ h. rw (lt-ltb n 10 h) (f h)) (λ h. rw (le-ltb n 10 h) (g h)) (below_or_not n 10)

-- the digits stand for the number
digits_value : (k n : ℕ) → n < 10 ^ suc k → value_from 0 (digits k n) ≡ n
unfolding digits value_from
digits_value zero n h = omega arith
digits_value (suc k) n h =
    by_size k n (λ (ds : List ℕ). value_from 0 ds ≡ n) (λ l. omega arith)
    (λ l. value_last 0 (digits k (n / 10)) (48 + n % 10) ∙ omega (arith, digits_value k (n / 10) (omega (arith, pow-suc 10 (suc k)))))

-- a number below 2^64 in decimal is read back as the number
pub decimal_value : (n : ℕ) → n < 2 ^ 64 → value_from 0 (decimal n) ≡ n
decimal_value n h = digits_value 19 n (omega arith)

-- there is a digit
some_digit : (k n : ℕ) → 0 < length (digits k n)
unfolding digits
some_digit zero n = omega arith
some_digit (suc k) n = by_size k n (λ (ds : List ℕ). 0 < length ds) (λ l. omega arith) (λ l. omega (arith, length-append (digits k (n / 10)) ((48 + n % 10) ∷ [])))

-- no digit 0 stands in front of a number other than 0
pub no_zero_in_front : (k n : ℕ) → 0 < n → n < 10 ^ suc k → 48 < get_or (digits k n) 0 0
unfolding digits
no_zero_in_front zero n p h = omega arith
no_zero_in_front (suc k) n p h =
    by_size k n (λ (ds : List ℕ). 48 < get_or ds 0 0) (λ l. omega arith)
    (λ l. omega (arith, get_or-append (digits k (n / 10)) ((48 + n % 10) ∷ []) 0 0 (some_digit k (n / 10)), no_zero_in_front k (n / 10) (omega arith) (omega (arith, pow-suc 10 (suc k)))))

-- the code of a digit
abbrev pub IsDigit : ℕ → Type 0
IsDigit b = (48 ≤ b) × (b < 58)

-- the last byte is one
last_digit : (n b : ℕ) → Memᴰ b ((48 + n % 10) ∷ []) → IsDigit b
last_digit n b m = subst IsDigit (sym (Memᴰ.eq_of_singleton m)) (omega arith)

-- and so is every byte
pub only_digits : (k n b : ℕ) → Memᴰ b (digits k n) → IsDigit b
unfolding digits
only_digits zero n b m = last_digit n b m
only_digits (suc k) n b m =
    by_size k n (λ (ds : List ℕ). Memᴰ b ds → IsDigit b) (λ l. last_digit n b)
    (λ l w. ⊎_elim (only_digits k (n / 10) b) (last_digit n b) (Memᴰ.append_cases (digits k (n / 10)) w)) m

-- "all the way down" without a procedure, and what makes the descent end.
use mathlib.Core.List.{List, Memᴰ}
use Rattle.std.specs.Prelude.{ℕ, ◌<◌, length}
use Rattle.tables.specs.Terms.{Term, term_at}

-- what the lists `parts` and `symbols` are of: u is t itself, or a part of an argument of t
pub data Part (ts : List Term) (u : ℕ) : ℕ → Type 0 where
  itself : Part ts u u
  deeper : {t a : ℕ} → Memᴰ a (term_at ts t).arguments → Part ts u a → Part ts u t

-- "Every argument is lower than the record's own number."
abbrev pub LowerArguments : List Term → Type 0
LowerArguments ts = (t : ℕ) → t < length ts → (a : ℕ) → Memᴰ a (term_at ts t).arguments → a < t

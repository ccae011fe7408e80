-- A lent buffer as a page that bytes are written on, one behind the other, as long as there is room.
use Rattle.std.specs.Prelude.{cond, List, [], ◌∷◌, ◌++◌, ℕ, ◌+◌, min, ltb, length, set, take, drop}

-- the buffer's bytes, and the place of the next byte
pub record Page : Type 0 where
  pub bytes : List ℕ
  pub at : ℕ

abbrev pub page : List ℕ → ℕ → Page
page bytes at = record { bytes = bytes; at = at }

-- one byte more; a full page stays as it is
abbrev pub put : Page → ℕ → Page
put p b = page (set p.bytes p.at b) (cond (ltb p.at (length p.bytes)) (p.at + 1) p.at)

-- a text's bytes, one behind the other
unfoldable pub puts : Page → List ℕ → Page
puts p [] = p
puts p (b ∷ bs) = puts (put p b) bs

-- a text shown in a buffer from its start: as much of it as there is room for, then what the buffer held; and how many of its bytes that are
abbrev pub shown : List ℕ → List ℕ → Page
shown text buffer = page (take (length buffer) (text ++ drop (length text) buffer)) (min (length text) (length buffer))

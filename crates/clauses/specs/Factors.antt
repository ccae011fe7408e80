-- 01, "Reading the clauses": "A path's factors are its longest stretches of one colour."
use Rattle.std.specs.Prelude.{cond, List, [], ◌∷◌, ℕ}
use Rattle.tables.specs.LiteralTable.{same_side}
use Rattle.tables.specs.declared.Side.{Side}
use Rattle.closure.specs.Graph.{Hop, Path}

-- a stretch of one colour: its ends, and its hops
pub record Factor : Type 0 where
  pub colour : Side
  pub from : ℕ
  pub to : ℕ
  pub hops : Path

-- a hop by itself
abbrev pub alone : Hop → Factor
alone h = record { colour = h.colour; from = h.from; to = h.to; hops = h ∷ [] }

-- a hop in front of a stretch of its colour
abbrev pub longer : Hop → Factor → Factor
longer h f = record { colour = f.colour; from = h.from; to = f.to; hops = h ∷ f.hops }

-- the factors with one hop more in front: it lengthens the first where the colours agree
unfoldable pub in_front : Hop → List Factor → List Factor
in_front h [] = alone h ∷ []
in_front h (f ∷ fs) = cond (same_side h.colour f.colour) (longer h f ∷ fs) (alone h ∷ f ∷ fs)

unfoldable pub factors : Path → List Factor
factors [] = []
factors (h ∷ π) = in_front h (factors π)

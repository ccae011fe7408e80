-- 01, "Symbols and colours". ts are the given terms and ls the literals; a table may have added terms behind the given ones.
use Rattle.std.specs.Prelude.{Bool, ◌&&◌, List, ◌++◌, ℕ}
use Rattle.tables.specs.Words.{any, every, among}
use Rattle.tables.specs.Terms.{Term, parts, symbols}
use Rattle.tables.specs.LiteralTable.{Side, A, B, same_side}
use Rattle.tables.specs.declared.Literal.{Literal}

-- "Terms in use are the sides of all literals and, repeatedly, their arguments."
unfoldable pub is_in_use : List Term → List Literal → ℕ → Bool
is_in_use ts ls t = any (λ l. among t (parts ts l.left ++ parts ts l.right)) ls

-- a symbol "occurs in some A literal" (or B literal): it is a symbol of a side of one
unfoldable pub occurs_in : List Term → List Literal → Side → ℕ → Bool
occurs_in ts ls X f = any (λ l. same_side l.side X && among f (symbols ts l.left ++ symbols ts l.right)) ls

-- "A term is A-colourable when each of its symbols occurs in some A literal; B-colourable likewise". The term is of the table.
unfoldable pub colourable : List Term → List Literal → Side → List Term → ℕ → Bool
colourable ts ls X table t = every (occurs_in ts ls X) (symbols table t)

-- "shared when both"
unfoldable pub shared : List Term → List Literal → List Term → ℕ → Bool
shared ts ls table t = colourable ts ls A table t && colourable ts ls B table t

-- "An edge is A- or B-colourable when both ends are (001, 4.3)."
unfoldable pub edge_colourable : List Term → List Literal → Side → List Term → ℕ → ℕ → Bool
edge_colourable ts ls X table s t = colourable ts ls X table s && colourable ts ls X table t

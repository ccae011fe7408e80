-- `engine::added::term_record` meets its contract: its words are those of the fields.
use mathlib.Core.List.{List, [], ◌∷◌}
use Prim.Native.Nat.{ℕ}
use lib.ListN.{get_or}
use Rattle.engine.specs.Ending.{record_bytes}
use Rattle.engine.proofs.added.term_record.Goals as goal

-- `engine::added::term_record` meets its contract: its words are those of the fields.
-- the sixteen bytes, of the words that the code makes
abbrev sixteen : ℕ → List ℕ → List ℕ → List ℕ → List ℕ → List ℕ → List ℕ
sixteen n f a b c d =
    get_or f 0 0 ∷ get_or f 1 0 ∷ n ∷ 0 ∷ get_or a 0 0 ∷ get_or a 1 0 ∷ get_or b 0 0 ∷ get_or b 1 0 ∷ get_or c 0 0 ∷ get_or c 1 0 ∷ get_or d 0 0 ∷ get_or d 1 0 ∷ 0 ∷ 0 ∷ 0 ∷ 0 ∷ []

pub returns : goal.returns
unfolding record_bytes
returns c = λ i. sixteen c.args.arity (c.word-f.ensures i) (c.word-a.ensures i) (c.word-b.ensures i) (c.word-c.ensures i) (c.word-d.ensures i)

-- Clauses by the place of their records: what the contracts of the functions that write clauses cite.
use Rattle.std.specs.Prelude.{List, [], ◌∷◌, map, ℕ, zero, suc, ◌-◌}
use Rattle.tables.specs.Words.{Pair}
use Rattle.tables.specs.Bytes.{record_at}
use Rattle.clauses.specs.Clauses.{Clause}
use Rattle.clauses.specs.ReadBack.{pair_read, conclusion_read}

-- so many numbers from one on, ascending
unfoldable pub up_from : ℕ → ℕ → List ℕ
up_from from zero = []
up_from from (suc n) = from ∷ up_from (suc from) n

-- the pairs of so many clause records from one on
unfoldable pub pairs_from : List ℕ → ℕ → ℕ → List Pair
pairs_from clauses from n = map (λ j. pair_read (record_at 8 clauses j)) (up_from from n)

-- the clause whose premises start at a record and whose conclusion is at another
unfoldable pub clause_of : List ℕ → ℕ → ℕ → Clause
unfolding pairs_from
clause_of clauses start conclusion = record { premises = pairs_from clauses start (conclusion - start); conclusion = conclusion_read (record_at 8 clauses conclusion) }

-- What the layers above work on: the terms read into arrays, with what the literals say of them. Past the count an array holds 0, or false.
use Rattle.std.specs.Prelude.{false, cond, List, [], ◌∷◌, ◌++◌, map, ℕ, ◌+◌, ◌-◌, min, replicate, Result, Ok, Err}
use Rattle.tables.specs.Words.{below}
use Rattle.tables.specs.Terms.{Term}
use Rattle.tables.specs.TermTable.{term_count, term_record, symbol_field, arity_field, row_of, terms_of}
use Rattle.tables.specs.LiteralTable.{A, B, literals_of}
use Rattle.tables.specs.declared.Literal.{Literal}
use Rattle.tables.specs.Colours.{is_in_use, colourable}
use Rattle.tables.specs.Checks.{Check, checked}
use Rattle.tables.specs.declared.Refusal.{Refusal}
use Rattle.tables.specs.declared.Tables.{Tables}

-- an array of a size: what f says of each number below n, as many as fit, and the filler behind
unfoldable pub filled {ℓ} : {X : Type ℓ} → ℕ → X → ℕ → (ℕ → X) → List X
filled size none n f = map f (below (min n size)) ++ replicate (size - n) none

-- a term's colours as one number: 1 A-colourable, 2 B-colourable, 3 shared, 0 neither
unfoldable pub colour_number : List Term → List Literal → List Term → ℕ → ℕ
colour_number ts ls table t = cond (colourable ts ls A table t) 1 0 + cond (colourable ts ls B table t) 2 0

-- "The arguments are worked on as a row of four for each term."
unfoldable pub argument_rows : List ℕ → List (List ℕ)
unfolding filled
argument_rows bs = filled 256 (0 ∷ 0 ∷ 0 ∷ 0 ∷ []) (term_count bs) (λ k. row_of (term_record bs k))

-- the tables where nothing refuses them
unfoldable pub sound_tables : List ℕ → List ℕ → Tables
unfolding filled colour_number argument_rows
sound_tables bs ls =
    let n = term_count bs in
    record {
      terms = n;
      symbols = filled 256 0 n (λ k. symbol_field (term_record bs k));
      arities = filled 256 0 n (λ k. arity_field (term_record bs k));
      rows = argument_rows bs;
      used = filled 256 false n (is_in_use (terms_of bs) (literals_of ls));
      colours = filled 256 0 n (colour_number (terms_of bs) (literals_of ls) (terms_of bs));
    }

-- the tables where the checks say that they are sound, else the row that refuses
unfoldable pub unless_refused : Check → Tables → Result Tables Refusal
unless_refused (Ok sound) t = Ok t
unless_refused (Err row) t = Err row

-- any two byte strings, read
unfoldable pub tables_read : List ℕ → List ℕ → Result Tables Refusal
unfolding sound_tables unless_refused
tables_read bs ls = unless_refused (checked bs ls) (sound_tables bs ls)

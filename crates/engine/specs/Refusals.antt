-- The answer that each refusal of a call is: its number and its place.
use Rattle.std.specs.Prelude.{ℕ, Result, Ok, Err}
use Rattle.tables.specs.Checks.{number_of, place_in}
use Rattle.demands.specs.declared.Answer.{Answer}
use Rattle.demands.specs.declared.Answer.TheVariants.{Refused}
use Rattle.engine.specs.declared.refusal.Buffer.{Buffer}
use Rattle.engine.specs.declared.refusal.Buffer.TheVariants.{Partition, Added, Clauses}
use Rattle.engine.specs.declared.refusal.Refusal.{Refusal}
use Rattle.engine.specs.declared.refusal.Refusal.TheVariants.{Table, Short, Stuck}

-- "0 partition, 1 added terms, 2 clauses"
abbrev pub buffer_place : Buffer → ℕ
buffer_place Partition = 0
buffer_place Added = 1
buffer_place Clauses = 2

-- row 7 is a buffer that is too short, row 8 a run that is stuck
abbrev pub refused_as : Refusal → Answer
refused_as (Table row) = Refused (number_of row) (place_in row)
refused_as (Short buffer) = Refused 7 (buffer_place buffer)
refused_as Stuck = Refused 8 0

-- a call that may be refused, as an answer
abbrev pub answer_of : Result Answer Refusal → Answer
answer_of (Ok answer) = answer
answer_of (Err refusal) = refused_as refusal

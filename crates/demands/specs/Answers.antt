-- 01: "the answer carries the number of the disequality, the count of added terms and the count of clause records"; "A refusal returns its number and
-- place, its other numbers are 0"; "The consistent answer's three numbers are 0."
use Rattle.demands.specs.declared.Answer.{Answer}
use Rattle.demands.specs.declared.Answer.TheVariants.{Consistent, Inconsistent, Refused}
use Rattle.demands.specs.declared.Numbers.{Numbers}

-- the numbers that document 01 gives for an answer, behind one for the verdict: without it a consistent answer and P5 would look alike
abbrev pub numbers_of : Answer → Numbers
numbers_of Consistent = record { verdict = 0; number = 0; place = 0; disequality = 0; added = 0; records = 0 }
numbers_of (Inconsistent d a r) = record { verdict = 1; number = 0; place = 0; disequality = d; added = a; records = r }
numbers_of (Refused n p) = record { verdict = 2; number = n; place = p; disequality = 0; added = 0; records = 0 }

-- `reading::earlier::record_key` meets its contract: five numbers of two bytes, of which all but the first are multiplied by 65536 or more, stay below 2 ^ 57.
use native.Mathlib.Omega.{arith}
use Rattle.reading.specs.Keys.{record_key}
use Rattle.reading.proofs.earlier.record_key.Goals as goal

pub returns : goal.returns
unfolding record_key
returns c = omega arith

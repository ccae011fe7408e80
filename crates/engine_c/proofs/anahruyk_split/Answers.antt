-- `engine_c::anahruyk_split` meets its contract: the numbers of the answer that `split` gives, and the bytes that it leaves.
use mathlib.Core.Path.{◌≡◌, ap, ◌∙◌}
use Rattle.demands.specs.declared.Numbers.{Numbers}
use Rattle.demands.specs.Buffers.{Buffers, Returned}
use Rattle.engine_c.proofs.anahruyk_split.Goals as goal

-- the numbers that are told are those that came back
numbers_told : {n m : Numbers} {bs : Buffers} {r : Returned} → n ≡ m → record { numbers = m; buffers = bs } ≡ r → record { numbers = n; buffers = bs } ≡ r
numbers_told {bs = bs} e q = ap (λ (x : Numbers). record { numbers = x; buffers = bs }) e ∙ q

pub returns : goal.returns
returns c = let s = c.split-answer in
    record {
      returned = numbers_told c.told.ensures s.ensures.returned;
      terms_are_bytes = s.ensures.terms_are_bytes;
      literals_are_bytes = s.ensures.literals_are_bytes;
    }

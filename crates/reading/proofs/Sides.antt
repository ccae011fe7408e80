-- The two sides of a literal that was read are those of its record, so a bound on these is one on them.
use Rattle.std.proofs.Common.{ℕ, List, ◌≡◌, ◌<◌, ap, arith}
use Rattle.tables.specs.Bytes.{word_at}
use Rattle.tables.specs.LiteralTable.{literal_count, literal_record, literal_of}
use Rattle.reading.specs.Fields.{fields_of}
use Rattle.reading.specs.Marks.{LiteralsWithin}
use Rattle.reading.specs.declared.literal.Fields.{Fields}
use Rattle.tables.specs.declared.Literal.{Literal}

pub sides_below : (ls : List ℕ) (k bound : ℕ) {l : Fields} → l ≡ fields_of (literal_record ls k) → word_at (literal_record ls k) 2 < bound → word_at (literal_record ls k) 4 < bound → (l.left < bound) × (l.right < bound)
sides_below ls k bound read left right = (omega (arith, ap (λ (f : Fields). f.left) read, left), omega (arith, ap (λ (f : Fields). f.right) read, right))

-- and of the literal
pub literal_sides_below : (ls : List ℕ) (k bound : ℕ) {l : Literal} → l ≡ literal_of (literal_record ls k) → word_at (literal_record ls k) 2 < bound → word_at (literal_record ls k) 4 < bound → (l.left < bound) × (l.right < bound)
unfolding literal_of
literal_sides_below ls k bound read left right = (omega (arith, ap (λ (f : Literal). f.left) read, left), omega (arith, ap (λ (f : Literal). f.right) read, right))

-- so the sides of a literal of checked tables are term numbers
pub sides_small : (ls : List ℕ) (k : ℕ) {l : Literal} → LiteralsWithin ls → k < literal_count ls → l ≡ literal_of (literal_record ls k) → (l.left < 256) × (l.right < 256)
sides_small ls k within h read = literal_sides_below ls k 256 read (within.left k h) (within.right k h)

-- `reading::earlier::is_repeated` meets its contract: where no earlier record has the key, none is equal.
use mathlib.Core.Path.{◌∙◌}
use Rattle.reading.proofs.Keys.{no_key}
use Rattle.reading.proofs.earlier.is_repeated.Goals as goal

pub returns-else-had_key : goal.returns-else-had_key
returns-else-had_key c = c.if-had_key.false ∙ no_key _ _ c.requires.2 c.requires.1 _ _ c.requires.0 c.had_key.ensures c.if-had_key.false

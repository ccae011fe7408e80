-- What the functions that write promise: the same buffer is lent on, and a text more stands on its page.
use Rattle.std.specs.Prelude.{List, ℕ, ◌≡◌}
use Rattle.report.specs.declared.writer.Writer.{Writer}
use Rattle.report.specs.Page.{Page, page, puts}

-- the buffer of a writer as a page
abbrev pub page_of : Writer → Page
page_of w = page w.out.now w.at

-- a writer before and after the text was written
abbrev pub Writes : Writer → Writer → List ℕ → Type 0
Writes before after text = (after.out.ghost_name ≡ before.out.ghost_name) × (page_of after ≡ puts (page_of before) text)

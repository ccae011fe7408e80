-- `sound` meets its contract: the arrays hold the columns of sound tables, so the marks and colours are those of the definitions.
use Rattle.std.proofs.Common.{ℕ, List, ◌≡◌}
use Rattle.tables.specs.Checks.{checked}
use Rattle.tables.specs.TermTable.{term_count}
use Rattle.tables.specs.Read.{sound_tables, argument_rows}
use Rattle.tables.specs.Checks.{Sound}
use Rattle.tables.proofs.Sound.{sound}
use Rattle.reading.proofs.Columns.{Columns, symbol_column, arity_column, columns_lower, columns_used, columns_colours}
use Rattle.reading.proofs.arrays.sound.Goals as goal

-- the arrays that were read hold the columns
abbrev known :
    (ts ls : List ℕ) →
    checked ts ls ≡ Sound →
    {symbols arities : List ℕ} {rows : List (List ℕ)} →
    symbols ≡ symbol_column ts →
    arities ≡ arity_column ts →
    rows ≡ argument_rows ts →
    Columns
known ts ls h {symbols} {arities} {rows} s a r =
    record { bs = ts; ls = ls; symbols = symbols; arities = arities; rows = rows; tables = sound ts ls h; symbols_read = s; arities_read = a; rows_read = r }

pub invariant_of-arguments : goal.invariant_of-arguments
invariant_of-arguments c = record { lower = columns_lower (known c.args.terms.now c.args.literals.now c.requires c.term_words-symbols.ensures c.term_bytes-arities.ensures c.rows-rows.ensures) }

pub returns : goal.returns
unfolding sound_tables
returns c = let k = known c.args.terms.now c.args.literals.now c.requires c.term_words-symbols.ensures c.term_bytes-arities.ensures c.rows-rows.ensures in
    let a = c.inside-a in
    let b = c.inside-b in
    let in_use = c.in_use-used in
    let in_a = c.occurring-in_a in
    let in_b = c.occurring-in_b in
    let used = columns_used k a.result b.result a.ensures b.ensures in_use.result in_use.ensures in
    let colours = columns_colours k a.result b.result a.ensures b.ensures in_a.result in_b.result c.colours-colours.result in_a.ensures in_b.ensures c.colours-colours.ensures in
    λ i.
    record {
      terms = term_count k.bs;
      symbols = k.symbols_read i;
      arities = k.arities_read i;
      rows = k.rows_read i;
      used = used i;
      colours = colours i;
    }

-- For closed cases: a theorem that says `unfolding computing` opens all that the definitions of specs/ compute with.
use mathlib.Core.List.{flat_map, zip_with}
use Rattle.tables.specs.Words.{below, any, every, keep, among, same, first_of, pairs_below}
use Rattle.tables.specs.Terms.{down_to, down, parts, symbols}
use Rattle.tables.specs.TermTable.{row_of, term_of, terms_of}
use Rattle.tables.specs.LiteralTable.{literal_of, literals_of}
use Rattle.tables.specs.Tests.{arity_wrong, spare_wrong, not_lower, unused_not_zero, breaks_layout, other_arity, had_other_arity, equal_records, equals_earlier, not_one_or_two, breaks_literal}
use Rattle.tables.specs.Checks.{place_of, length_row, count_row, layout_row, arity_row, repeated_row, literal_row, refuse, checked, number_of, place_in}
use Rattle.tables.specs.Colours.{is_in_use, occurs_in, colourable, shared, edge_colourable}

unfoldable pub computing : Unit {0}
unfolding flat_map zip_with below any every keep among same first_of pairs_below down_to down parts symbols row_of term_of terms_of literal_of literals_of arity_wrong spare_wrong not_lower unused_not_zero breaks_layout other_arity had_other_arity equal_records equals_earlier not_one_or_two breaks_literal place_of length_row count_row layout_row arity_row repeated_row literal_row refuse checked number_of place_in is_in_use occurs_in colourable shared edge_colourable
computing = tt

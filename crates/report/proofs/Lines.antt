-- What the proofs of the functions that write lines have in common: the definitions that they open, and the laws that they use.
use Rattle.tables.proofs.Words.{flat_map_below_none, flat_map_below_more}
use Rattle.report.specs.Page.{puts}
use Rattle.report.specs.Records.{clause_of}
use Rattle.report.specs.Text.{class_of, term_line, argument_text, added_line, and_pair, clause_line, consistent_text, head_text, end_text, inconsistent_text, refused_text}
use Rattle.report.proofs.Digits.{as_std}
use Rattle.report.proofs.Pages.{puts_append, put_inside, put_outside, byte_more}
use Rattle.report.proofs.ClauseLines.{conclusion_equal, conclusion_different, conclusion_false, text_none, text_some, premises_none, premises_more, left_premise, left_clause, left_none, left_all}

-- the texts, as far as a function writes them part by part
unfoldable pub lines : Unit {0}
unfolding puts class_of term_line argument_text added_line and_pair clause_line clause_of consistent_text head_text end_text inconsistent_text refused_text
lines = tt

-- a byte with and without room, a text behind a text, bytes and lines one by one, the digits of a number, and what stands in a clause's line
pub ruleset laws = (put_inside, put_outside, puts_append, byte_more, flat_map_below_none, flat_map_below_more, as_std, conclusion_equal, conclusion_different, conclusion_false, text_none, text_some, premises_none, premises_more, left_premise, left_clause, left_none, left_all)

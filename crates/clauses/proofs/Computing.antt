-- For closed cases: a theorem that says `unfolding computing` opens all that the definitions of specs/ compute with.
use Rattle.tables.proofs.Computing.{computing as words}
use Rattle.closure.proofs.Computing.{computing as lower}
use Rattle.clauses.specs.Clauses.{between}
use Rattle.clauses.specs.Factors.{in_front, factors}
use Rattle.clauses.specs.Premises.{factor_premises, premises, factor_clauses, path_clauses}
use Rattle.clauses.specs.Reading.{contradicted, critical, from_first, stretches, end_of, not_middle, outer_premises, read_a, read_between, summary}
use Rattle.clauses.specs.Records.{among_pairs, ascending, concludes, is_last, first_alone, standing, clause_record, conclusion_record, records_of, clause_records}
use Rattle.clauses.specs.ReadBack.{pair_read, conclusion_read, clauses_after, clauses_read}

-- what the clause layer's own definitions compute with; nothing of the graph is opened
unfoldable pub reading : Unit {0}
unfolding words between in_front factors factor_premises premises factor_clauses path_clauses contradicted critical from_first stretches end_of not_middle outer_premises read_a read_between summary among_pairs ascending concludes is_last first_alone standing clause_record conclusion_record records_of clause_records pair_read conclusion_read clauses_after clauses_read
reading = tt

unfoldable pub computing : Unit {0}
unfolding lower reading
computing = tt

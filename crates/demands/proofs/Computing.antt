-- For closed cases: a theorem that says `unfolding computing` opens all that the definitions of specs/ compute with.
use Rattle.clauses.proofs.Computing.{computing as lower}
use Rattle.demands.specs.Buffers.{class_number, partition_bytes, term_bytes, written_over}
use Rattle.demands.specs.Verdicts.{records_in}
use Rattle.demands.specs.Call.{too_short, consistent, inconsistent, verdict, ended, after_checks, judged}

unfoldable pub computing : Unit {0}
unfolding lower class_number partition_bytes term_bytes written_over records_in too_short consistent inconsistent verdict ended after_checks judged
computing = tt

-- `last_out` meets its contract: the premises of the outer stretches are written, and then the last conclusion.
use Rattle.summing.proofs.ClausesOut.{last_put}
use Rattle.summing.proofs.last.last_out.Goals as goal

pub returns-clause-put : goal.returns-clause-put
returns-clause-put c = last_put _ _ _ _ _ _ _ _ c.outer_premises.ensures.put c.put_last.ensures.put

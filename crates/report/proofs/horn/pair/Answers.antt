-- `report::horn::pair` meets its contract.
use Rattle.report.proofs.ClauseLines.{pair_shown}
use Rattle.report.proofs.Pages.{puts_append}
use Rattle.report.proofs.horn.pair.Goals as goal

pub returns : goal.returns
returns c = (cc, rw pair_shown (simp puts_append (cc)))

use Rattle.std.proofs.Common.{length}
use Rattle.record_check.proofs.taking.+have_verdicts.Given as goal

abbrev pub decreases-have_verdicts : goal.decreases-have_verdicts
decreases-have_verdicts l = length l.rows.now

use Rattle.std.proofs.Common.{length}
use Rattle.record_check.proofs.verdicts.+pages_before.Given as goal

abbrev pub decreases-pages_before : goal.decreases-pages_before
decreases-pages_before l = length l.log.now

use Rattle.std.proofs.Common.{length}
use Rattle.record_check.proofs.taking.+ends_rightly.Given as goal

abbrev pub decreases-ends_rightly : goal.decreases-ends_rightly
decreases-ends_rightly l = length l.log.now

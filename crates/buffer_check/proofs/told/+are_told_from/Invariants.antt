use Rattle.std.proofs.Common.{length}
use Rattle.buffer_check.proofs.told.+are_told_from.Given as goal

abbrev pub decreases-are_told_from : goal.decreases-are_told_from
decreases-are_told_from l = length l.log.now

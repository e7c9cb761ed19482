use Rattle.std.proofs.Common.{length}
use Rattle.host_check.proofs.run.+numbers_count_from.Given as goal

abbrev pub decreases-numbers_count_from : goal.decreases-numbers_count_from
decreases-numbers_count_from l = length l.sessions.now

use Rattle.std.proofs.Common.{length}
use Rattle.host_check.proofs.frames.+pages_of_log.Given as goal

abbrev pub decreases-pages_of_log : goal.decreases-pages_of_log
decreases-pages_of_log l = length l.log.now

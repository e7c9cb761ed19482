use Rattle.std.proofs.Common.{length}
use Rattle.host_check.proofs.frames.+pages_of_run.Given as goal

abbrev pub decreases-pages_of_run : goal.decreases-pages_of_run
decreases-pages_of_run l = length l.sessions.now

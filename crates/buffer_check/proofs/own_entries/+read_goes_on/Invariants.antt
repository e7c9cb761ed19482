use Rattle.std.proofs.Common.{length}
use Rattle.buffer_check.proofs.own_entries.+read_goes_on.Given as goal

abbrev pub decreases-read_goes_on : goal.decreases-read_goes_on
decreases-read_goes_on l = length l.steps.now

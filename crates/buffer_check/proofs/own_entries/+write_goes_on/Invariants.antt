use Rattle.std.proofs.Common.{length}
use Rattle.buffer_check.proofs.own_entries.+write_goes_on.Given as goal

abbrev pub decreases-write_goes_on : goal.decreases-write_goes_on
decreases-write_goes_on l = length l.steps.now

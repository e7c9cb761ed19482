use Rattle.std.proofs.Common.{length}
use Rattle.record_check.proofs.carrying.+ending.Given as goal

abbrev pub decreases-ending : goal.decreases-ending
decreases-ending l = length l.steps.now

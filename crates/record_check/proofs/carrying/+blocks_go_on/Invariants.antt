use Rattle.std.proofs.Common.{length}
use Rattle.record_check.proofs.carrying.+blocks_go_on.Given as goal

abbrev pub decreases-blocks_go_on : goal.decreases-blocks_go_on
decreases-blocks_go_on l = length l.steps.now

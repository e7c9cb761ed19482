use Rattle.std.proofs.Common.{length}
use Rattle.host_check.proofs.order.+sending_of.Given as goal

abbrev pub decreases-sending_of : goal.decreases-sending_of
decreases-sending_of l = length l.log.now

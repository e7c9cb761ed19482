use Rattle.std.proofs.Common.{length}
use Rattle.host_check.proofs.image.+are_partitions.Given as goal

abbrev pub decreases-are_partitions : goal.decreases-are_partitions
decreases-are_partitions l = length l.sessions.now

use Rattle.std.proofs.Common.{length}
use Rattle.played_check.proofs.played.+are_waited.Given as goal

abbrev pub decreases-are_waited : goal.decreases-are_waited
decreases-are_waited l = length l.asks.now

use Rattle.std.proofs.Common.{length}
use Rattle.played_check.proofs.played.+are_played.Given as goal

abbrev pub decreases-are_played : goal.decreases-are_played
decreases-are_played l = length l.sessions.now

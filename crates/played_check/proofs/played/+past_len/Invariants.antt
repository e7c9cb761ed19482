use Rattle.std.proofs.Common.{length}
use Rattle.played_check.proofs.played.+past_len.Given as goal

abbrev pub decreases-past_len : goal.decreases-past_len
decreases-past_len l = length l.log.now

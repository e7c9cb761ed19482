use Rattle.std.proofs.Common.{length}
use Rattle.session_client.proofs.plain.+tell.Given as goal

abbrev pub decreases-tell : goal.decreases-tell
decreases-tell l = length l.deeds.now

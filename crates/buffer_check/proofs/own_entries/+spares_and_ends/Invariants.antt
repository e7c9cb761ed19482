use Rattle.std.proofs.Common.{length}
use Rattle.buffer_check.proofs.own_entries.+spares_and_ends.Given as goal

abbrev pub decreases-spares_and_ends : goal.decreases-spares_and_ends
decreases-spares_and_ends l = length l.lifts.now

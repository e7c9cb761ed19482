use Rattle.std.proofs.Common.{length}
use Rattle.buffer_check.proofs.session.+ids_count_from.Given as goal

abbrev pub decreases-ids_count_from : goal.decreases-ids_count_from
decreases-ids_count_from l = length l.ids.now

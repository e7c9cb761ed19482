use Rattle.std.proofs.Common.{length}
use Rattle.played_check.proofs.calls.+are_answers.Given as goal

abbrev pub decreases-are_answers : goal.decreases-are_answers
decreases-are_answers l = length l.log.now

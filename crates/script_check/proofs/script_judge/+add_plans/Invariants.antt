use Rattle.std.proofs.Common.{length}
use Rattle.script_check.proofs.script_judge.+add_plans.Given as goal

abbrev pub decreases-add_plans : goal.decreases-add_plans
decreases-add_plans l = length l.sessions.now

use Rattle.std.proofs.Common.{length}
use Rattle.host_check.proofs.legal.+is_content.Given as goal

abbrev pub decreases-is_content : goal.decreases-is_content
decreases-is_content l = length l.steps.now

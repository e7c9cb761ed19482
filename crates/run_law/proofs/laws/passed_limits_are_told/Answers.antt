use Rattle.run_law.proofs.Scripts.{passed_limits_are_told}
use Rattle.run_law.proofs.laws.passed_limits_are_told.Goals as goal

pub returns : goal.returns
returns c = passed_limits_are_told

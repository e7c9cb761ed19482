use Rattle.run_law.proofs.Scripts.{made_limits_are_told}
use Rattle.run_law.proofs.laws.made_limits_are_told.Goals as goal

pub returns : goal.returns
returns c = made_limits_are_told

use Rattle.run_law.proofs.Scripts.{bad_scripts_are_told}
use Rattle.run_law.proofs.laws.bad_scripts_are_told.Goals as goal

pub returns : goal.returns
returns c = bad_scripts_are_told

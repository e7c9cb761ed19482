use Rattle.run_law.proofs.Scripts.{long_scripts_are_told}
use Rattle.run_law.proofs.laws.long_scripts_are_told.Goals as goal

pub returns : goal.returns
returns c = long_scripts_are_told

use Rattle.run_law.proofs.Images.{unserved_sessions_are_told}
use Rattle.run_law.proofs.laws.unserved_sessions_are_told.Goals as goal

pub returns : goal.returns
returns c = unserved_sessions_are_told

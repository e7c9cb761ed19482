use Rattle.session_law.proofs.Fronts.{fronts_rise}
use Rattle.session_law.proofs.laws.fronts_rise.Goals as goal

pub returns : goal.returns
returns c = fronts_rise

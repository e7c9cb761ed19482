use Rattle.script_played.proofs.Fitting.{histories_fit}
use Rattle.script_played.proofs.laws.histories_fit.Goals as goal

pub returns : goal.returns
returns c = histories_fit

use Rattle.host_model.proofs.Inside.{steps_stay_inside}
use Rattle.host_model.proofs.laws.steps_stay_inside.Goals as goal

pub returns : goal.returns
returns c = steps_stay_inside

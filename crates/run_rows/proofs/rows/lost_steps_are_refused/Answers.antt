use Rattle.run_rows.proofs.LostSteps.{lost_steps_are_refused}
use Rattle.run_rows.proofs.rows.lost_steps_are_refused.Goals as goal

pub returns : goal.returns
returns c = lost_steps_are_refused

use Rattle.host_device.proofs.HistoryLemmas.{crash_inside_step_proof}
use Rattle.host_device.proofs.laws.crash_inside_step.Goals as goal

pub returns : goal.returns
returns c = crash_inside_step_proof

use Rattle.session_law.proofs.Idle.{idle_visits_tell}
use Rattle.session_law.proofs.hand_laws.idle_visits_tell.Goals as goal

pub returns : goal.returns
returns c = idle_visits_tell

use Rattle.session_law.proofs.Draining.{drains_come_last}
use Rattle.session_law.proofs.laws.drains_come_last.Goals as goal

pub returns : goal.returns
returns c = drains_come_last

use Rattle.crash_law.proofs.Ended.{ended_writes_survive}
use Rattle.crash_law.proofs.laws.ended_writes_survive.Goals as goal

pub returns : goal.returns
returns c = ended_writes_survive

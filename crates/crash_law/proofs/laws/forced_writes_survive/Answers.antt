use Rattle.crash_law.proofs.Forced.{forced_writes_survive}
use Rattle.crash_law.proofs.laws.forced_writes_survive.Goals as goal

pub returns : goal.returns
returns c = forced_writes_survive

use Rattle.crash_law.proofs.Survival.{flushed_writes_survive}
use Rattle.crash_law.proofs.laws.flushed_writes_survive.Goals as goal

pub returns : goal.returns
returns c = flushed_writes_survive

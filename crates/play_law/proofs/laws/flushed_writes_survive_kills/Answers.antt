use Rattle.play_law.proofs.Kills.{flushed_writes_survive_kills}
use Rattle.play_law.proofs.laws.flushed_writes_survive_kills.Goals as goal

pub returns : goal.returns
returns c = flushed_writes_survive_kills

use Rattle.script_played.proofs.Owing as owing
use Rattle.script_played.proofs.laws.owed_as_written.Goals as goal

pub returns : goal.returns
returns c = owing.owed_as_written

use Rattle.play_law.proofs.Runs.{played_runs_are_sound}
use Rattle.play_law.proofs.laws.played_runs_are_sound.Goals as goal

pub returns : goal.returns
returns c = played_runs_are_sound

use Rattle.play_law.proofs.Runs.{played_runs_are_laid_out}
use Rattle.play_law.proofs.laws.played_runs_are_laid_out.Goals as goal

pub returns : goal.returns
returns c = played_runs_are_laid_out

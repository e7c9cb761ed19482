use Rattle.run_rows.proofs.WrongRuns.{wrong_runs_are_refused}
use Rattle.run_rows.proofs.rows.wrong_runs_are_refused.Goals as goal

pub returns : goal.returns
returns c = wrong_runs_are_refused

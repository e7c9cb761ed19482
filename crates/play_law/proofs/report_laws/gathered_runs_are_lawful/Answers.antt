use Rattle.play_law.proofs.Reports.{gathered_runs_are_lawful}
use Rattle.play_law.proofs.report_laws.gathered_runs_are_lawful.Goals as goal

pub returns : goal.returns
returns c = gathered_runs_are_lawful

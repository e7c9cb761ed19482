use Rattle.play_law.proofs.Reports.{gathered_reports_are_lawful}
use Rattle.play_law.proofs.report_laws.gathered_reports_are_lawful.Goals as goal

pub returns : goal.returns
returns c = gathered_reports_are_lawful

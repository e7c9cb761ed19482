use Rattle.model_rows.proofs.WrongReports.{wrong_reports_are_refused}
use Rattle.model_rows.proofs.rows.wrong_reports_are_refused.Goals as goal

pub returns : goal.returns
returns c = wrong_reports_are_refused

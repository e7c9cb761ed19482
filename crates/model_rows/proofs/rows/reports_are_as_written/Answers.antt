use Rattle.model_rows.proofs.ReportTexts.{reports_are_as_written}
use Rattle.model_rows.proofs.rows.reports_are_as_written.Goals as goal

pub returns : goal.returns
returns c = reports_are_as_written

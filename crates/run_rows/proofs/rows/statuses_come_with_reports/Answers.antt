use Rattle.run_rows.proofs.Reports.{statuses_come_with_reports}
use Rattle.run_rows.proofs.rows.statuses_come_with_reports.Goals as goal

pub returns : goal.returns
returns c = statuses_come_with_reports

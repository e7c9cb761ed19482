use Rattle.model_rows.proofs.ReportFields.{each_report_field_is_needed}
use Rattle.model_rows.proofs.rows.each_report_field_is_needed.Goals as goal

pub returns : goal.returns
returns c = each_report_field_is_needed

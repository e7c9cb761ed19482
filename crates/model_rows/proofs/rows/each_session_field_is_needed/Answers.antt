use Rattle.model_rows.proofs.SessionFields.{each_session_field_is_needed}
use Rattle.model_rows.proofs.rows.each_session_field_is_needed.Goals as goal

pub returns : goal.returns
returns c = each_session_field_is_needed

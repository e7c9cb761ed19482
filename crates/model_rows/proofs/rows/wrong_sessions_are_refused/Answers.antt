use Rattle.model_rows.proofs.WrongSessions.{wrong_sessions_are_refused}
use Rattle.model_rows.proofs.rows.wrong_sessions_are_refused.Goals as goal

pub returns : goal.returns
returns c = wrong_sessions_are_refused

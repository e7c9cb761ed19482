use Rattle.model_rows.proofs.LawfulSessions.{sessions_are_lawful}
use Rattle.model_rows.proofs.rows.sessions_are_lawful.Goals as goal

pub returns : goal.returns
returns c = sessions_are_lawful

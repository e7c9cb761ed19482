use Rattle.session_law.proofs.Lawful.{sessions_are_lawful}
use Rattle.session_law.proofs.laws.sessions_are_lawful.Goals as goal

pub returns : goal.returns
returns c = sessions_are_lawful

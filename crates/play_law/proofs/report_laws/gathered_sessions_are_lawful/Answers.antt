use Rattle.play_law.proofs.Sessions.{gathered_sessions_are_lawful}
use Rattle.play_law.proofs.report_laws.gathered_sessions_are_lawful.Goals as goal

pub returns : goal.returns
returns c = gathered_sessions_are_lawful

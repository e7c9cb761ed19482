use Rattle.run_rows.proofs.Opened.{opens_sessions}
use Rattle.run_rows.proofs.playing_rows.sessions_are_opened.Goals as goal

pub returns : goal.returns
returns c = opens_sessions

use Rattle.session_law.proofs.Kept.{hands_keep_sessions}
use Rattle.session_law.proofs.hand_laws.hands_keep_sessions.Goals as goal

pub returns : goal.returns
returns c = hands_keep_sessions

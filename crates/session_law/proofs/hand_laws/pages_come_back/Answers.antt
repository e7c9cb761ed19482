use Rattle.session_law.proofs.Pages.{pages_come_back}
use Rattle.session_law.proofs.hand_laws.pages_come_back.Goals as goal

pub returns : goal.returns
returns c = pages_come_back

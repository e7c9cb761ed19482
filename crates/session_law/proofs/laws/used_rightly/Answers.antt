use Rattle.session_law.proofs.Used.{used_rightly}
use Rattle.session_law.proofs.laws.used_rightly.Goals as goal

pub returns : goal.returns
returns c = used_rightly

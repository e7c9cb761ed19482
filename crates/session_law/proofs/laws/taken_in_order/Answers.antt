use Rattle.session_law.proofs.Taken.{taken_in_order}
use Rattle.session_law.proofs.laws.taken_in_order.Goals as goal

pub returns : goal.returns
returns c = taken_in_order

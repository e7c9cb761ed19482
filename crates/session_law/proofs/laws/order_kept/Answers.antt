use Rattle.session_law.proofs.Ordered.{order_kept}
use Rattle.session_law.proofs.laws.order_kept.Goals as goal

pub returns : goal.returns
returns c = order_kept

use Rattle.host_model.proofs.Ordering.{order_is_kept}
use Rattle.host_model.proofs.laws.order_is_kept.Goals as goal

pub returns : goal.returns
returns c = order_is_kept

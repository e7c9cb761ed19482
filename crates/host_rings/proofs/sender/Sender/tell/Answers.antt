use Rattle.host_rings.proofs.RequestMoves.{tells}
use Rattle.host_rings.proofs.sender.Sender.tell.Goals as goal

pub another-requires-clause-rule : goal.another-requires-clause-rule
another-requires-clause-rule c = tells _ _ c.self.invariant.1

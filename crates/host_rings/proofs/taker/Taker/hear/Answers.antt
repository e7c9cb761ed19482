use Rattle.host_rings.proofs.RequestMoves.{hears}
use Rattle.host_rings.proofs.taker.Taker.hear.Goals as goal

pub absorb-requires-clause-rule : goal.absorb-requires-clause-rule
absorb-requires-clause-rule c = hears _ _ _ _ c.self.invariant.1 c.self.invariant.2 c.note.invariant.1

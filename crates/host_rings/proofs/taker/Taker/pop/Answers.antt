use Rattle.host_rings.proofs.RequestMoves.{pops, finds_empty}
use Rattle.host_rings.proofs.taker.Taker.pop.Goals as goal

pub pop_as-requires-clause-rule : goal.pop_as-requires-clause-rule
pop_as-requires-clause-rule g c = (pops _ _ c.self.invariant.1 c.self.invariant.2, finds_empty _ _ c.self.invariant.1 c.self.invariant.2)

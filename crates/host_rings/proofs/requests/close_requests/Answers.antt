use Rattle.std.proofs.Common.{rules}
use Rattle.host_rings.proofs.RequestMoves.{merges, totals}
use Rattle.host_rings.proofs.requests.close_requests.Goals as goal

pub absorb-requires-clause-rule : goal.absorb-requires-clause-rule
absorb-requires-clause-rule c = merges _ _ _ _ c.sender.invariant.1 c.taker.invariant.1

pub learn_as-requires-clause-rule : goal.learn_as-requires-clause-rule
learn_as-requires-clause-rule c = totals _ _ (search rules) (search rules)

use Rattle.std.proofs.Common.{◌≡◌}
use Rattle.host_frames.specs.{pool_id, seat_pool}
use Rattle.session_client.specs.{IsHandAt, IsSameHand}
use Rattle.session_client.proofs.pair.serve.Given as goal

abbrev pub invariant-loop : goal.invariant-loop
invariant-loop g l = (goal.iterator-loop g).can_next l.iterator' × (goal.iterator-loop g).is_finite l.iterator' × IsHandAt l.shared (pool_id l.pool) l.number l.hand × (seat_pool l.seat ≡ pool_id l.pool) × IsSameHand l.fn.hand l.hand

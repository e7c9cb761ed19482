use Rattle.host_worker.proofs.Waiting.{IsWaiting}
use Rattle.host_worker.proofs.wait.send_through.Given as goal

abbrev pub invariant-loop : goal.invariant-loop
invariant-loop g l = (goal.iterator-loop g).can_next l.iterator' × (goal.iterator-loop g).is_finite l.iterator' × IsWaiting l.server l.fn.hand l.fn.client l.hand l.client

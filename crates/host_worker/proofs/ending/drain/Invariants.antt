use Rattle.host_worker.proofs.Closed.{IsDrainingWith}
use Rattle.host_worker.proofs.ending.drain.Given as goal

abbrev pub invariant-loop : goal.invariant-loop
invariant-loop g l = (goal.iterator-loop g).can_next l.iterator' × (goal.iterator-loop g).is_finite l.iterator' × IsDrainingWith l.server l.fn.hand l.fn.client l.hand l.client

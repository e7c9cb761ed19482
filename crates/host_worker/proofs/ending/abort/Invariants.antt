use Rattle.host_worker.proofs.Closed.{IsAbortingWith}
use Rattle.host_worker.proofs.ending.abort.Given as goal

abbrev pub invariant-loop : goal.invariant-loop
invariant-loop g l = (goal.iterator-loop g).can_next l.iterator' × (goal.iterator-loop g).is_finite l.iterator' × IsAbortingWith l.server l.fn.hand l.fn.client l.hand l.client

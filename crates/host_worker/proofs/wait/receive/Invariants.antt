use Rattle.host_worker.specs.{HasReceived, KeepsRoom}
use Rattle.host_worker.proofs.wait.receive.Given as goal

abbrev pub invariant-loop : goal.invariant-loop
invariant-loop g l = (goal.iterator-loop g).can_next l.iterator' × (goal.iterator-loop g).is_finite l.iterator' × HasReceived l.fn.client l.client × KeepsRoom l.fn.client l.client

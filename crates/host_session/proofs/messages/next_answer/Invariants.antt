use Rattle.host_session.specs.{HasThrown}
use Rattle.host_session.proofs.messages.next_answer.Given as goal

abbrev pub invariant-loop : goal.invariant-loop
invariant-loop g l = (goal.iterator-loop g).can_next l.iterator' × (goal.iterator-loop g).is_finite l.iterator' × HasThrown l.sent l.fn.taker l.taker

use Rattle.std.proofs.Common.{◌≡◌}
use Rattle.host_session.specs.{IsShared}
use Rattle.session_client.proofs.playing.await_answers.Given as goal

abbrev pub invariant-loop : goal.invariant-loop
invariant-loop g l = (goal.iterator-loop g).can_next l.iterator' × (goal.iterator-loop g).is_finite l.iterator' × IsShared l.caller.client.plan l.shared × (l.caller.client.plan ≡ l.fn.caller.client.plan)

use Rattle.std.proofs.Common.{◌≡◌}
use Rattle.state_client.proofs.rings.tests.requests.take_one.Given as goal

abbrev pub invariant-loop : goal.invariant-loop
invariant-loop g l = l.desk.ring ≡ l.initial.desk.ring

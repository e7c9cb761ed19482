use Rattle.std.proofs.Common.{◌≡◌}
use Rattle.state_client.proofs.rings.tests.requests.take_all.Given as goal

abbrev pub invariant-loop-index : goal.invariant-loop-index
invariant-loop-index g l = l.desk.ring ≡ l.fn.desk.ring

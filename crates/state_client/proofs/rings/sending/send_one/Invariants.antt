use Rattle.std.proofs.Common.{◌≡◌}
use Rattle.state_client.proofs.rings.sending.send_one.Given as goal

abbrev pub invariant-loop : goal.invariant-loop
invariant-loop g l = l.sender ≡ l.initial.sender

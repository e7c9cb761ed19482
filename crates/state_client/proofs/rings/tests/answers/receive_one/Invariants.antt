use Rattle.std.proofs.Common.{◌≡◌}
use Rattle.state_client.proofs.rings.tests.answers.receive_one.Given as goal

abbrev pub invariant-loop : goal.invariant-loop
invariant-loop g l = record {
  ring : l.taker.ring ≡ l.initial.taker.ring;
  senders : l.taker.senders ≡ l.initial.taker.senders;
}

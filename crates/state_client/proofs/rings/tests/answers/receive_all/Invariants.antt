use Rattle.std.proofs.Common.{◌≡◌}
use Rattle.state_client.proofs.rings.tests.answers.receive_all.Given as goal

abbrev pub invariant-loop : goal.invariant-loop
invariant-loop g l = record {
  ring : l.taker.ring ≡ l.fn.taker.ring;
  senders : l.taker.senders ≡ l.fn.taker.senders;
}

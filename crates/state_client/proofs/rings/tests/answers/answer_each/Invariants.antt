use Rattle.std.proofs.Common.{◌≡◌}
use Rattle.state_client.proofs.rings.tests.answers.answer_each.Given as goal

abbrev pub invariant-loop-index : goal.invariant-loop-index
invariant-loop-index g l = record {
  ring : l.hand.sender.ring ≡ l.initial.hand.sender.ring;
  number : l.hand.sender.number ≡ l.initial.hand.sender.number;
}

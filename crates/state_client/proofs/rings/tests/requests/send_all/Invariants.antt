use Rattle.std.proofs.Common.{◌≡◌, length}
use Rattle.state_client.proofs.rings.tests.requests.send_all.Given as goal

abbrev pub invariant-loop-index : goal.invariant-loop-index
invariant-loop-index g l = record {
  ring : l.sender.ring ≡ l.fn.sender.ring;
  records : l.sender.records ≡ l.fn.sender.records;
  place : length l.sender.pushed ≡ l.index;
}

use Rattle.std.proofs.Common.{◌≡◌, ◌≤◌, ◌+◌}
use Rattle.host_group.specs.{plain_cell}
use Rattle.state_client.proofs.group.plain_round.settle_plainly.Given as goal

abbrev pub invariant-loop-k : goal.invariant-loop-k
invariant-loop-k l = (l.cells.next ≡ l.fn.cells.next) × (l.round.members ≤ (plain_cell 3 l.cells).unsettled + l.k)

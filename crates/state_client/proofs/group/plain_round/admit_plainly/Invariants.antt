use Rattle.std.proofs.Common.{◌≤◌, ◌+◌}
use Rattle.host_group.specs.{plain_cell}
use Rattle.state_client.proofs.group.plain_round.admit_plainly.Given as goal

abbrev pub invariant-loop-k : goal.invariant-loop-k
invariant-loop-k l = (l.cells.next ≤ l.first + l.k) × (l.k ≤ (plain_cell 3 l.cells).unsettled)

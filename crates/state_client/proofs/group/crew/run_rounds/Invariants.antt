use Rattle.std.proofs.Common.{◌≡◌, ◌≤◌, ◌*◌, [], vec_capacity}
use Rattle.host_group.specs.{IsAdmitting, IsNoneOut, next}
use Rattle.state_client.proofs.group.crew.run_rounds.Given as goal

abbrev pub invariant-loop : goal.invariant-loop
invariant-loop g l = IsAdmitting l.cells l.seat × IsNoneOut l.seat × (next l.seat ≤ l.first) × (l.tasks.items ≡ []) × (64 ≤ vec_capacity l.tasks) × (l.plain.next ≤ l.first) × (l.first ≤ 64 * l.counter)

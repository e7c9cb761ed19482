use Rattle.std.proofs.Common.{◌≡◌, ◌≤◌, ◌+◌, length, vec_len, vec_capacity}
use Rattle.std.specs.List.{All}
use Rattle.host_group.specs.{IsAdmitting, IsRight, IsSeatUnused, row, admitted, back, next}
use Rattle.state_client.proofs.group.crew.admit_all.Given as goal

abbrev pub invariant-loop-k : goal.invariant-loop-k
invariant-loop-k l =
    IsAdmitting l.cells l.seat × (length (admitted l.seat) ≡ length (back l.seat) + l.k) × (next l.seat ≤ l.first + l.k) × (vec_len l.tasks ≡ l.k) × (64 ≤ vec_capacity l.tasks)
    × All (λ t. IsRight l.cells 3 t.right × IsSeatUnused t.right × ((row t.right).member.index ≡ t.index)) l.tasks.items

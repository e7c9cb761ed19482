use Rattle.std.proofs.Common.{◌≡◌, ◌+◌, length, vec_len, vec_capacity}
use Rattle.std.specs.List.{All}
use Rattle.host_group.specs.{IsAdmitting, IsRight, IsUsed, admitted, back, next}
use Rattle.state_client.proofs.group.crew.join_all.Given as goal

abbrev pub invariant-loop-task : goal.invariant-loop-task
invariant-loop-task l =
    IsAdmitting l.cells l.seat × (length (admitted l.seat) ≡ length (back l.seat) + vec_len l.tasks) × (next l.seat ≡ next l.fn.seat) × (vec_capacity l.tasks ≡ vec_capacity l.fn.tasks) × All (λ t. IsRight l.cells 3 t.right × IsUsed t.right) l.tasks.items

abbrev pub decreases-loop-task : goal.decreases-loop-task
decreases-loop-task l = vec_len l.tasks

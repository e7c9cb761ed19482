use Rattle.std.proofs.Common.{◌≡◌, ◌≤◌, ◌+◌, ◌*◌, take}
use Rattle.std.specs.List.{sum_by}
use Rattle.script_played.specs.{steps_in}
use Rattle.script_played.proofs.room.steps_ahead.Given as goal

abbrev pub invariant-loop-session : goal.invariant-loop-session
invariant-loop-session l = record {
  sum : l.total ≡ 1 + sum_by (λ s. steps_in s.lines.items) (take l.session-index l.session-items);
  bound : l.total ≤ 1 + 65537 * 65535 * l.session-index;
}

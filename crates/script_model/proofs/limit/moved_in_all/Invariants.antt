use Rattle.std.proofs.Common.{◌≡◌, ◌≤◌, ◌*◌, take}
use Rattle.std.specs.List.{sum_by}
use Rattle.script_model.specs.{moved_by_lines}
use Rattle.script_model.proofs.limit.moved_in_all.Given as goal

abbrev pub invariant-loop-session : goal.invariant-loop-session
invariant-loop-session l = record {
  sum : l.total ≡ sum_by (λ s. moved_by_lines s.lines.items) (take l.session-index l.sessions);
  bound : l.total ≤ (0x1_0000_0000 * 0x1_0000_0000_0000_0000) * l.session-index;
}

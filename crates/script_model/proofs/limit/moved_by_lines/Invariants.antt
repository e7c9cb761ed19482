use Rattle.std.proofs.Common.{◌≡◌, ◌≤◌, ◌*◌, take}
use Rattle.std.specs.List.{sum_by}
use Rattle.script_model.specs.{moved_by}
use Rattle.script_model.proofs.limit.moved_by_lines.Given as goal

abbrev pub invariant-loop-line : goal.invariant-loop-line
invariant-loop-line l = record {
  sum : l.total ≡ sum_by moved_by (take l.line-index l.lines);
  bound : l.total ≤ 0x1_0000_0000 * l.line-index;
}

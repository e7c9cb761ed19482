use Rattle.std.proofs.Common.{◌≡◌, ◌≤◌, ◌+◌, ◌-◌, ◌*◌, ◌++◌, length, drop}
use Rattle.host_gpt.specs.{entries_from}
use Rattle.host_gpt.proofs.array.used_entries.Given as goal

abbrev pub invariant-loop-i : goal.invariant-loop-i
invariant-loop-i l = record {
  room : l.entries.room ≡ l.count;
  few : length (l.entries.items) ≤ l.i;
  read : l.entries.items ++ entries_from (l.i + 1) l.size (l.count - l.i) (drop (l.i * l.size) l.array) ≡ entries_from 1 l.size l.count l.array;
}

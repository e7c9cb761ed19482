use Rattle.std.proofs.Common.{◌≡◌, take}
use Rattle.host_model.specs.{map_with_before, found_by}
use Rattle.buffer_check.proofs.pages.all_found.Given as goal

abbrev pub invariant-loop-i : goal.invariant-loop-i
invariant-loop-i l = l.list.items ≡ map_with_before (found_by l.size) (take l.i l.history)

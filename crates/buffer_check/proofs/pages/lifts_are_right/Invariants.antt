use Rattle.std.proofs.Common.{◌≡◌, take}
use Rattle.host_model.specs.{all_with_before, lifts_page}
use Rattle.buffer_check.proofs.pages.lifts_are_right.Given as goal

abbrev pub invariant-loop-i : goal.invariant-loop-i
invariant-loop-i l = l.all ≡ all_with_before (lifts_page l.size) (take l.i l.history)

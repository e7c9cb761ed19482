use Rattle.std.proofs.Common.{◌≡◌, take}
use Rattle.host_model.specs.{all_with_before, pins_before_close}
use Rattle.buffer_check.proofs.releases.all_pin_rightly.Given as goal

abbrev pub invariant-loop-i : goal.invariant-loop-i
invariant-loop-i l = l.all ≡ all_with_before pins_before_close (take l.i l.history)

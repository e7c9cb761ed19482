use Rattle.std.proofs.Common.{◌≡◌, take}
use Rattle.host_model.specs.{all_with_before, comes_before_release}
use Rattle.buffer_check.proofs.releases.none_after_release.Given as goal

abbrev pub invariant-loop-i : goal.invariant-loop-i
invariant-loop-i l = l.all ≡ all_with_before comes_before_release (take l.i l.history)

use Rattle.std.proofs.Common.{◌≡◌, take}
use Rattle.host_model.specs.{all_with_before}
use Rattle.buffer_check.specs.{is_used_by}
use Rattle.buffer_check.proofs.used.all_used_rightly.Given as goal

abbrev pub invariant-loop-i : goal.invariant-loop-i
invariant-loop-i l = l.all ≡ all_with_before (is_used_by l.rs l.verdicts l.n l.history) (take l.i l.log)

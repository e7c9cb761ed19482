use Rattle.std.proofs.Common.{◌≡◌, take}
use Rattle.host_model.specs.{all_with_before, runs_out_rightly}
use Rattle.record_check.proofs.taking.all_lack_ids_rightly.Given as goal

abbrev pub invariant-loop-i : goal.invariant-loop-i
invariant-loop-i l = l.all ≡ all_with_before runs_out_rightly (take l.i l.log)

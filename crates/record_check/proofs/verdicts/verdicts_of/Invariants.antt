use Rattle.std.proofs.Common.{◌≡◌}
use Rattle.host_model.specs.{given_before, verdicts_on}
use Rattle.record_check.proofs.verdicts.verdicts_of.Given as goal

abbrev pub invariant-loop-i : goal.invariant-loop-i
invariant-loop-i l = l.list.items ≡ verdicts_on l.rs (given_before l.log) l.part l.i

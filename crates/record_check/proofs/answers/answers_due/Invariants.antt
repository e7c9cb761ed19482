use Rattle.std.proofs.Common.{◌≡◌}
use Rattle.record_check.specs.{due_below}
use Rattle.record_check.proofs.answers.answers_due.Given as goal

abbrev pub invariant-loop-i : goal.invariant-loop-i
invariant-loop-i l = l.list.items ≡ due_below l.rs l.rows l.i

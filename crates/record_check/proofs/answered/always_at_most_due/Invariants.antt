use Rattle.std.proofs.Common.{◌≡◌, take}
use Rattle.std.specs.List.{list_all}
use Rattle.host_model.specs.{is_answered_at_most, below}
use Rattle.record_check.proofs.answered.always_at_most_due.Given as goal

abbrev pub invariant-loop-n : goal.invariant-loop-n
invariant-loop-n l = l.all ≡ list_all (λ n. is_answered_at_most (take n l.log) l.rows) (below l.n)

use Rattle.std.proofs.Common.{◌≡◌}
use Rattle.std.specs.List.{list_all}
use Rattle.host_model.specs.{below}
use Rattle.host_check.specs.{is_ordered_by}
use Rattle.host_check.proofs.following.all_ordered.Given as goal

abbrev pub invariant-loop-r : goal.invariant-loop-r
invariant-loop-r l = l.all ≡ list_all (is_ordered_by l.rs l.verdicts l.log l.rows l.steps l.history) (below l.r)

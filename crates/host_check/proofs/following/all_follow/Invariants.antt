use Rattle.std.proofs.Common.{◌≡◌}
use Rattle.std.specs.List.{list_all}
use Rattle.host_model.specs.{below}
use Rattle.host_check.specs.{follows_by}
use Rattle.host_check.proofs.following.all_follow.Given as goal

abbrev pub invariant-loop-i : goal.invariant-loop-i
invariant-loop-i l = l.all ≡ list_all (follows_by l.rs l.verdicts l.log l.steps l.history l.had l.steps_r l.entries_r) (below l.i)

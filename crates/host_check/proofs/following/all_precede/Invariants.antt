use Rattle.std.proofs.Common.{◌≡◌}
use Rattle.std.specs.List.{list_all}
use Rattle.host_model.specs.{below}
use Rattle.host_check.specs.{precedes_by}
use Rattle.host_check.proofs.following.all_precede.Given as goal

abbrev pub invariant-loop-n : goal.invariant-loop-n
invariant-loop-n l = l.all ≡ list_all (precedes_by l.log l.history l.had l.entries_r) (below l.n)

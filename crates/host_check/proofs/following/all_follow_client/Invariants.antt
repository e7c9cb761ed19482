use Rattle.std.proofs.Common.{◌≡◌}
use Rattle.std.specs.List.{list_all}
use Rattle.host_model.specs.{below}
use Rattle.host_check.specs.{client_by}
use Rattle.host_check.proofs.following.all_follow_client.Given as goal

abbrev pub invariant-loop-i : goal.invariant-loop-i
invariant-loop-i l = l.all ≡ list_all (client_by l.rs l.verdicts l.log l.history) (below l.i)

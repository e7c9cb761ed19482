use Rattle.std.proofs.Common.{◌≡◌, map, take}
use Rattle.host_model.specs.{below, requests}
use Rattle.host_check.specs.{had_by}
use Rattle.host_check.proofs.order.had_each.Given as goal

abbrev pub invariant-loop-m : goal.invariant-loop-m
invariant-loop-m l = l.list.items ≡ map (λ m. had_by (requests (take m l.log)) (take m l.log) l.rows l.r) (below l.m)

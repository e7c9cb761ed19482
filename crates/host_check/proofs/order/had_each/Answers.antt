use Rattle.std.proofs.Common.{arith, take}
use Rattle.host_model.specs.{requests}
use Rattle.host_check.specs.{had_by}
use Rattle.record_check.proofs.GroupLemmas.{map_below_end, map_below_step}
use Rattle.host_check.proofs.order.had_each.Goals as goal

pub loop-m-preserved : goal.loop-m-preserved
loop-m-preserved c =
    map_below_step (λ m. had_by (requests (take m c.args.log.now)) (take m c.args.log.now) c.args.rows.now c.args.r) c.loop-m.m _ _ _ c.loop-m.invariant c.in_ok-had.ensures c.in_ok-push.ensures.items

pub returns : goal.returns
returns c =
    map_below_end (λ log. had_by (requests log) log c.args.rows.now c.args.r) c.args.log.now c.loop-m.m _ _ _ (omega (arith, c.loop-m-test.false, c.loop-m.auto.m-end)) c.loop-m.invariant c.in_ok-had-2.ensures c.in_ok-push-2.ensures.items

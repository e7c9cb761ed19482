use Rattle.std.proofs.Common.{◌==◌}
use Rattle.buffer_check.proofs.PlaceLemmas.{places_step}
use Rattle.buffer_check.proofs.places.step_places.Goals as goal

pub loop-i-preserved : goal.loop-i-preserved
loop-i-preserved c =
    places_step (λ step. step.index == c.args.r) c.args.steps.now c.loop-i.i c.index-steps-i.result _ _ _ c.loop-i-test.true c.index-steps-i.is c.loop-i.invariant c.is_of_record.ensures c.in_ok-push_if.ensures

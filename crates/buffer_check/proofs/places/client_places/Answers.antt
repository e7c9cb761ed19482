use Rattle.host_model.specs.{is_client}
use Rattle.buffer_check.proofs.PlaceLemmas.{places_step}
use Rattle.buffer_check.proofs.places.client_places.Goals as goal

pub loop-i-preserved : goal.loop-i-preserved
loop-i-preserved c =
    places_step is_client c.args.history.now c.loop-i.i c.index-history-i.result _ _ _ c.loop-i-test.true c.index-history-i.is c.loop-i.invariant c.is_of_client.ensures c.in_ok-push_if.ensures

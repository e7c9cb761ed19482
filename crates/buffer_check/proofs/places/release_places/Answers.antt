use Rattle.host_model.specs.{is_release_of}
use Rattle.buffer_check.proofs.PlaceLemmas.{places_step}
use Rattle.buffer_check.proofs.places.release_places.Goals as goal

pub loop-i-preserved : goal.loop-i-preserved
loop-i-preserved c =
    places_step (is_release_of c.args.v) c.args.history.now c.loop-i.i c.index-history-i.result _ _ _ c.loop-i-test.true c.index-history-i.is c.loop-i.invariant c.releases.ensures c.in_ok-push_if.ensures

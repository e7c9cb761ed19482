use Rattle.host_model.specs.{shown_bytes}
use Rattle.record_check.proofs.BeforeLemmas.{filter_map_step}
use Rattle.buffer_check.proofs.pages.all_shown.Goals as goal

pub loop-event-preserved : goal.loop-event-preserved
loop-event-preserved c =
    filter_map_step shown_bytes c.args.log.now c.loop-event.event-index c.event-item.result _ _ _ c.loop-event-test.true c.event-item.is c.loop-event.invariant c.in_ok-bytes.ensures c.in_ok-push_some.ensures

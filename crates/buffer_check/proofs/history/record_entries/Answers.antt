use Rattle.host_model.specs.{record_entry}
use Rattle.record_check.proofs.BeforeLemmas.{filter_map_step}
use Rattle.buffer_check.proofs.history.record_entries.Goals as goal

pub loop-event-preserved : goal.loop-event-preserved
loop-event-preserved c =
    filter_map_step (record_entry c.args.i) c.args.history.now c.loop-event.event-index c.event-item.result _ _ _ c.loop-event-test.true c.event-item.is c.loop-event.invariant c.in_ok-entry.ensures c.in_ok-push_some.ensures

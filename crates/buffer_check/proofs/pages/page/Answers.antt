use Rattle.std.proofs.Common.{replicate}
use Rattle.host_model.specs.{page_put_by}
use Rattle.record_check.proofs.BeforeLemmas.{last_step}
use Rattle.buffer_check.proofs.pages.page.Goals as goal

pub loop-event-preserved : goal.loop-event-preserved
loop-event-preserved c =
    last_step (page_put_by c.args.size c.args.v c.args.n) (replicate c.args.size 0) c.args.history.now c.loop-event.event-index c.event-item.result _ _ c.loop-event-test.true c.event-item.is c.loop-event.invariant c.in_ok-page-2.ensures

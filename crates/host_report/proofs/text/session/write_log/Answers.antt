use Rattle.std.proofs.Common.{arith}
use Rattle.host_report.specs.{event_text}
use Rattle.host_text.proofs.Putting.{adds_at, puts_exit, stops_at}
use Rattle.host_report.proofs.text.session.write_log.Goals as goal

pub returns-in_err-write_event : goal.returns-in_err-write_event
returns-in_err-write_event g c =
    puts_exit _ _ c.from_residual.ensures.0
    (stops_at (event_text c.args.size) c.args.log.now c.loop-event.event-index c.event-item.result c.event-item.result (omega arith) c.event-item.is c.loop-event.invariant c.in_err-write_event.ensures)

pub loop-event-preserved : goal.loop-event-preserved
loop-event-preserved g c =
    adds_at (event_text c.args.size) c.args.log.now c.loop-event.event-index c.event-item.result c.event-item.result (omega arith) c.event-item.is c.loop-event.invariant c.in_ok-write_event.ensures

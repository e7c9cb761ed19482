use Rattle.host_text.proofs.Putting.{puts_exit, stops_longer}
use Rattle.host_report.proofs.text.event.write_event.Goals as goal

pub returns-in_err-write_event_line : goal.returns-in_err-write_event_line
returns-in_err-write_event_line g c = puts_exit _ _ c.from_residual.ensures.0 (stops_longer _ c.in_err-write_event_line.ensures)

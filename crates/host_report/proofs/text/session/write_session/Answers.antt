use Rattle.host_text.proofs.Putting.{puts_exit, stops_later, stops_longer}
use Rattle.host_report.proofs.text.session.write_session.Goals as goal

pub returns-in_err-write_session_line : goal.returns-in_err-write_session_line
returns-in_err-write_session_line g c = puts_exit _ _ c.from_residual.ensures.0 (stops_longer _ (stops_longer _ c.in_err-write_session_line.ensures))

pub returns-in_err-write_log : goal.returns-in_err-write_log
returns-in_err-write_log g c =
    puts_exit _ _ c.from_residual-in_err-write_log.ensures.0 (stops_longer _ (stops_later c.in_ok-write_session_line.ensures (rw c.as_slice.ensures at c.in_err-write_log.ensures)))

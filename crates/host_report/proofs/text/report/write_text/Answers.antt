use Rattle.host_text.proofs.Putting.{adds_more, puts_after, puts_exit, stops_later, stops_longer}
use Rattle.host_report.proofs.text.report.write_text.Goals as goal

pub returns-in_err-write_head : goal.returns-in_err-write_head
returns-in_err-write_head g c = puts_exit _ _ c.from_residual.ensures.0 (stops_longer _ (stops_longer _ (stops_longer _ c.in_err-write_head.ensures)))

pub returns-in_err-write_sessions : goal.returns-in_err-write_sessions
returns-in_err-write_sessions g c =
    puts_exit _ _ c.from_residual-in_err-write_sessions.ensures.0
    (stops_longer _ (stops_longer _ (stops_later c.in_ok-write_head.ensures (rw c.as_slice.ensures at c.in_err-write_sessions.ensures))))

pub returns-in_err-write_all_steps : goal.returns-in_err-write_all_steps
returns-in_err-write_all_steps g c =
    puts_exit _ _ c.from_residual-in_err-write_all_steps.ensures.0
    (stops_longer _ (stops_later (adds_more c.in_ok-write_head.ensures (rw c.as_slice.ensures at c.in_ok-write_sessions.ensures)) c.in_err-write_all_steps.ensures))

pub returns : goal.returns
returns g c =
    puts_after _ _ _ _ (adds_more (adds_more c.in_ok-write_head.ensures (rw c.as_slice.ensures at c.in_ok-write_sessions.ensures)) c.in_ok-write_all_steps.ensures) c.write_end.ensures

use Rattle.std.proofs.Common.{arith}
use Rattle.host_report.specs.{session_text}
use Rattle.host_text.proofs.Putting.{adds_at, puts_exit, stops_at}
use Rattle.host_report.proofs.text.session.write_sessions.Goals as goal

pub returns-in_err-write_session : goal.returns-in_err-write_session
returns-in_err-write_session g c =
    puts_exit _ _ c.from_residual.ensures.0
    (stops_at (session_text c.args.size c.args.steps) c.args.sessions.now c.loop-session.session-index c.session-item.result c.session-item.result (omega arith) c.session-item.is c.loop-session.invariant c.in_err-write_session.ensures)

pub loop-session-preserved : goal.loop-session-preserved
loop-session-preserved g c =
    adds_at (session_text c.args.size c.args.steps) c.args.sessions.now c.loop-session.session-index c.session-item.result c.session-item.result (omega arith) c.session-item.is c.loop-session.invariant c.in_ok-write_session.ensures

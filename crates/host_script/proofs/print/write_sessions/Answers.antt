use Rattle.std.proofs.Common.{arith}
use Rattle.host_text.proofs.Putting.{adds_at, puts_exit, stops_at}
use Rattle.script_model.specs.{SessionScript, plan_of, session_script_text}
use Rattle.host_script.proofs.print.write_sessions.Goals as goal

pub returns-in_err-write_session : goal.returns-in_err-write_session
returns-in_err-write_session g c =
    puts_exit _ _ c.from_residual.ensures.0
    (stops_at (λ (s : SessionScript). session_script_text (plan_of s)) c.args.sessions.now c.loop-session.session-index c.session-item.result c.session-item.result (omega arith) c.session-item.is c.loop-session.invariant c.in_err-write_session.ensures)

pub loop-session-preserved : goal.loop-session-preserved
loop-session-preserved g c =
    adds_at (λ (s : SessionScript). session_script_text (plan_of s)) c.args.sessions.now c.loop-session.session-index c.session-item.result c.session-item.result (omega arith) c.session-item.is c.loop-session.invariant c.in_ok-write_session.ensures

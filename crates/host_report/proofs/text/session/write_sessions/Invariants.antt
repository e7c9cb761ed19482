use Rattle.std.proofs.Common.{take, flat_map}
use Rattle.host_report.specs.{session_text}
use Rattle.host_text.specs.{AppendsText}
use Rattle.host_report.proofs.text.session.write_sessions.Given as goal

abbrev pub invariant-loop-session : goal.invariant-loop-session
invariant-loop-session g l = AppendsText g.K.Sink.tells g.K.Sink.faults g.K.Sink.appended l.initial.out l.initial.held l.out l.held (flat_map (session_text l.size l.steps) (take l.session-index l.sessions))

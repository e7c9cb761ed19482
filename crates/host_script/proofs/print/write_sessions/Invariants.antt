use Rattle.std.proofs.Common.{take, flat_map}
use Rattle.host_text.specs.{AppendsText}
use Rattle.script_model.specs.{plan_of, session_script_text}
use Rattle.host_script.proofs.print.write_sessions.Given as goal

abbrev pub invariant-loop-session : goal.invariant-loop-session
invariant-loop-session g l = AppendsText g.K.Sink.tells g.K.Sink.faults g.K.Sink.appended l.initial.out l.initial.held l.out l.held (flat_map (λ s. session_script_text (plan_of s)) (take l.session-index l.sessions))

use Rattle.std.proofs.Common.{take, flat_map}
use Rattle.host_report.specs.{event_text}
use Rattle.host_text.specs.{AppendsText}
use Rattle.host_report.proofs.text.session.write_log.Given as goal

abbrev pub invariant-loop-event : goal.invariant-loop-event
invariant-loop-event g l = AppendsText g.K.Sink.tells g.K.Sink.faults g.K.Sink.appended l.initial.out l.initial.held l.out l.held (flat_map (event_text l.size) (take l.event-index l.log))

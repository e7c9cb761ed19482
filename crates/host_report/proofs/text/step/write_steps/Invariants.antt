use Rattle.std.proofs.Common.{take, flat_map}
use Rattle.host_report.specs.{step_line}
use Rattle.host_text.specs.{AppendsText}
use Rattle.host_report.proofs.text.step.write_steps.Given as goal

abbrev pub invariant-loop-step : goal.invariant-loop-step
invariant-loop-step g l = AppendsText g.K.Sink.tells g.K.Sink.faults g.K.Sink.appended l.initial.out l.initial.held l.out l.held (flat_map step_line (take l.step-index l.steps))

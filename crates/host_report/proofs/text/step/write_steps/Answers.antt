use Rattle.std.proofs.Common.{arith}
use Rattle.host_report.specs.{step_line}
use Rattle.host_text.proofs.Putting.{adds_at, puts_exit, stops_at}
use Rattle.host_report.proofs.text.step.write_steps.Goals as goal

pub returns-in_err-write_step : goal.returns-in_err-write_step
returns-in_err-write_step g c =
    puts_exit _ _ c.from_residual.ensures.0
    (stops_at step_line c.args.steps.now c.loop-step.step-index c.step-item.result c.step-item.result (omega arith) c.step-item.is c.loop-step.invariant c.in_err-write_step.ensures)

pub loop-step-preserved : goal.loop-step-preserved
loop-step-preserved g c =
    adds_at step_line c.args.steps.now c.loop-step.step-index c.step-item.result c.step-item.result (omega arith) c.step-item.is c.loop-step.invariant c.in_ok-write_step.ensures

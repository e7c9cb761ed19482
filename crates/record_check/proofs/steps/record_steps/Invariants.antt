use Rattle.std.proofs.Common.{◌≡◌, ◌==◌, filter, take}
use Rattle.record_check.proofs.steps.record_steps.Given as goal

abbrev pub invariant-loop-step : goal.invariant-loop-step
invariant-loop-step l = l.list.items ≡ filter (λ step. step.index == l.i) (take l.step-index l.steps)

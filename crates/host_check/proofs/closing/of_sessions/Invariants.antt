use Rattle.std.proofs.Common.{◌≡◌, filter, take}
use Rattle.host_report.specs.{is_of_sessions}
use Rattle.host_check.proofs.closing.of_sessions.Given as goal

abbrev pub invariant-loop-step : goal.invariant-loop-step
invariant-loop-step l = l.list.items ≡ filter (is_of_sessions l.n) (take l.step-index l.steps)

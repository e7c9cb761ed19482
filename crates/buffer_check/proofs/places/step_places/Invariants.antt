use Rattle.std.proofs.Common.{◌≡◌, ◌==◌, take}
use Rattle.host_model.specs.{places}
use Rattle.buffer_check.proofs.places.step_places.Given as goal

abbrev pub invariant-loop-i : goal.invariant-loop-i
invariant-loop-i l = l.list.items ≡ places (λ step. step.index == l.r) (take l.i l.steps)

use Rattle.std.proofs.Common.{◌≡◌, ◌==◌, Some, take}
use Rattle.std.specs.Option.{option_eq}
use Rattle.host_model.specs.{places}
use Rattle.buffer_check.specs.{owner_by}
use Rattle.buffer_check.proofs.places.entry_places.Given as goal

abbrev pub invariant-loop-i : goal.invariant-loop-i
invariant-loop-i l = l.list.items ≡ places (λ e. option_eq ◌==◌ (owner_by l.rs l.verdicts e) (Some l.r)) (take l.i l.history)

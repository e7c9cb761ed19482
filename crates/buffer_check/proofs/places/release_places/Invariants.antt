use Rattle.std.proofs.Common.{◌≡◌, take}
use Rattle.host_model.specs.{is_release_of, places}
use Rattle.buffer_check.proofs.places.release_places.Given as goal

abbrev pub invariant-loop-i : goal.invariant-loop-i
invariant-loop-i l = l.list.items ≡ places (is_release_of l.v) (take l.i l.history)

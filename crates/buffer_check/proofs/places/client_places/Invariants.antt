use Rattle.std.proofs.Common.{◌≡◌, take}
use Rattle.host_model.specs.{is_client, places}
use Rattle.buffer_check.proofs.places.client_places.Given as goal

abbrev pub invariant-loop-i : goal.invariant-loop-i
invariant-loop-i l = l.list.items ≡ places is_client (take l.i l.history)

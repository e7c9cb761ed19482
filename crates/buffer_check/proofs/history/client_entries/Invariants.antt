use Rattle.std.proofs.Common.{◌≡◌, filter, take}
use Rattle.host_model.specs.{is_client}
use Rattle.buffer_check.proofs.history.client_entries.Given as goal

abbrev pub invariant-loop-event : goal.invariant-loop-event
invariant-loop-event l = l.list.items ≡ filter is_client (take l.event-index l.history)

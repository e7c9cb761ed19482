use Rattle.std.proofs.Common.{◌≡◌, take}
use Rattle.host_model.specs.{entries_of}
use Rattle.buffer_check.proofs.history.record_entries.Given as goal

abbrev pub invariant-loop-event : goal.invariant-loop-event
invariant-loop-event l = l.list.items ≡ entries_of l.i (take l.event-index l.history)

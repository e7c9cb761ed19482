use Rattle.std.proofs.Common.{◌≡◌, filter_map, take}
use Rattle.host_model.specs.{shown_bytes}
use Rattle.buffer_check.proofs.pages.all_shown.Given as goal

abbrev pub invariant-loop-event : goal.invariant-loop-event
invariant-loop-event l = l.list.items ≡ filter_map shown_bytes (take l.event-index l.log)

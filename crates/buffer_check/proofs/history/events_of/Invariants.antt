use Rattle.std.proofs.Common.{◌≡◌, map, take}
use Rattle.buffer_check.proofs.history.events_of.Given as goal

abbrev pub invariant-loop-entry : goal.invariant-loop-entry
invariant-loop-entry l = l.list.items ≡ map (λ e. e.what) (take l.entry-index l.entries)

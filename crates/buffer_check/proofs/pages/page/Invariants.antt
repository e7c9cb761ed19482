use Rattle.std.proofs.Common.{◌≡◌, take}
use Rattle.host_model.specs.{page_at}
use Rattle.buffer_check.proofs.pages.page.Given as goal

abbrev pub invariant-loop-event : goal.invariant-loop-event
invariant-loop-event l = l.page ≡ page_at l.size (take l.event-index l.history) l.v l.n

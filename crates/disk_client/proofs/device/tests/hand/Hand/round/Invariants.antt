use Rattle.std.proofs.Common.{◌≡◌}
use Rattle.host_turn.specs.{seat_book, book_id}
use Rattle.disk_client.proofs.device.tests.hand.Hand.round.Given as goal

abbrev pub invariant-loop-b : goal.invariant-loop-b
invariant-loop-b g l = seat_book l.self.seat ≡ book_id l.book

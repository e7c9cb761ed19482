use Rattle.std.proofs.Common.{◌≡◌}
use Rattle.host_turn.specs.{seat_book, book_id}
use Rattle.disk_client.proofs.device.tests.hand.Hand.work.Given as goal

abbrev pub invariant-loop-byte : goal.invariant-loop-byte
invariant-loop-byte g l = seat_book l.self.seat ≡ book_id l.book

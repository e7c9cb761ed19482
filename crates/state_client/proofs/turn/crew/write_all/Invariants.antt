use Rattle.std.proofs.Common.{◌≡◌}
use Rattle.host_turn.specs.{seat_book, book_id}
use Rattle.state_client.proofs.turn.crew.write_all.Given as goal

abbrev pub invariant-loop-n : goal.invariant-loop-n
invariant-loop-n g l = seat_book l.writer.seat ≡ book_id l.book

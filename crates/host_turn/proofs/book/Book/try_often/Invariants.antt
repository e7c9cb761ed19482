use Rattle.std.proofs.Common.{◌≡◌}
use Rattle.host_turn.specs.{IsWaiting, IsSameSeat, seen_by}
use Rattle.host_turn.proofs.book.Book.try_often.Given as goal

abbrev pub invariant-loop : goal.invariant-loop
invariant-loop g l = IsSameSeat l.fn.seat l.seat × IsWaiting l.ticket l.seat × (seen_by l.seat ≡ seen_by l.fn.seat)

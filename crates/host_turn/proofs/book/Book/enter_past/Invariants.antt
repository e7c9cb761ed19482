use Rattle.host_log.specs.{Continues}
use Rattle.host_turn.specs.{IsSeatOf, IsOutside, IsSameSeat, number, seen_by}
use Rattle.host_turn.proofs.book.Book.enter_past.Given as goal

abbrev pub invariant-loop : goal.invariant-loop
invariant-loop g l =
    (goal.iterator-loop g).can_next l.iterator' × (goal.iterator-loop g).is_finite l.iterator' × IsSeatOf l.self l.seat × IsOutside l.seat × IsSameSeat l.fn.seat l.seat
    × Continues g.S.Story.maker (number l.fn.seat) (seen_by l.fn.seat) (seen_by l.seat)

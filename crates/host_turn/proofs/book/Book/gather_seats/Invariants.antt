use Rattle.std.proofs.Common.{◌≡◌, ◌+◌, List, [], ◌∷◌, ◌++◌, map, length, vec_len}
use Rattle.std.specs.List.{All}
use Rattle.host_turn.specs.{BookSeat, IsSeatOutside, HasGathered, member_of}
use Rattle.host_turn.proofs.book.Book.gather_seats.Given as goal

abbrev pub invariant-loop-seat : goal.invariant-loop-seat
invariant-loop-seat g l =
    All (λ q. IsSeatOutside l.self q) l.seats.items
    × ((done : List (BookSeat g.row.S.Denot g.row.S-Entry.Denot g.row.S-Fixed.Denot)) × (l.seats.items ++ done ≡ l.fn.seats.items)
    × HasGathered l.self l.base (length done + 1) (map member_of done ++ member_of l.fn.base ∷ []))

abbrev pub decreases-loop-seat : goal.decreases-loop-seat
decreases-loop-seat g l = vec_len l.seats

use Rattle.std.proofs.Common.{◌≡◌, ◌+◌, ◌≤◌, All, vec_len, vec_capacity}
use Rattle.host_turn.specs.{AreNewSeats, seat_book, book_id, opening_of}
use Rattle.state_client.proofs.turn.crew.hand_out_all.Given as goal

abbrev pub invariant-loop-seats : goal.invariant-loop-seats
invariant-loop-seats l =
    AreNewSeats (λ d. d.notes.items) (λ d. d.topic) (book_id l.book) (opening_of l.book) l.seats.items
    × (vec_len l.crew + vec_len l.seats ≡ vec_len l.fn.seats)
    × (vec_len l.fn.seats ≤ vec_capacity l.crew)
    × All (λ w. seat_book w.seat ≡ book_id l.book) l.crew.items

abbrev pub decreases-loop-seats : goal.decreases-loop-seats
decreases-loop-seats l = vec_len l.seats

-- What is defined here, by file.
--   Rule IsMember: one of the seats that were made has seen this of the history `last`
--   Rule AreMembers: each of these is a seat that was made, and has seen this
--   Rule Owns: what each seat knows of itself
--   Rule MakesSeats: the first view makes the seats, and stands for those that it hasn't made
--   Rule Waits: a seat waits with a ticket that is drawn and not past
--   Rule HasTurn: a seat whose ticket is served has seen the whole history
--   Rule Tells: a note has what its seat had seen, and stands for no seat
--   Rule HasTakenIn: a closing seat stands for the members that it has taken in
--   Rule Knows: what the j-th view knows, by its stage, where `last` is the history as it was ..
--   Rule Apart: two views have no number in common, and different tickets
--   Rule AtHome: nobody has the turn, and the state is in the slot
--   Rule Away: a seat has the turn, and the slot
--   Rule IsOpeningOrSeen: nothing was added yet, or some seat has seen the whole history
--   Rule IsFree: no view has this number
--   Rule OneHistory: the rule
--   Rule first_view: the view that the book is made with: it makes the seats
--   Seats book_id: which book it is
--   Seats opening_of: the state that it was made with
--   Seats seat_count: how many seats it was made with
--   Seats seat_book: which book a seat is of
--   Seats number
--   Seats fixed_part: the fixed part of its book's state
--   Seats seen_by: the beginning of the history that the seat has seen
--   Seats own_entries: the entries that the seat made
--   Seats IsSeatOf
--   Seats IsOutside: it has no ticket and no turn
--   Seats IsWaiting: it has a ticket
--   Seats IsInside: it has the turn, and its state was handed out
--   Seats IsSameSeat: the same seat, at another time
--   Seats IsSeatOutside: it may enter this book
--   Seats IsNewSeat: a seat of a book that was made with the state x, before its first turn
--   Seats AreNewSeats: the seats are numbered from 0
--   Seats AreSeatsAt: the k-th seat is outside the k-th of these books, with this number
--   Seats IsSeenBySome: some seat of the list has seen just this history
--   Seats IsMaker: the first seat of the table, which makes the others, and has made n of them
--   Seats IsNote: a note, which tells what a seat of this book has seen
--   Seats told_by: the history that a note tells
--   Seats fixed_part_of: the fixed part that goes with it
--   Seats member_of
--   Seats HasGathered: the seat has taken in others, and stands for n seats, which are these ..
--   Steps Seated
--   Steps DrawsTicket: the seat has a ticket, which the word has modulo 2^64
--   Steps IsStateFor: the state goes on from what this view has seen, and has its fixed part
--   Steps TakesTurn: where its ticket is served the seat has the turn and the slot, else ..
--   Steps history_of
--   Steps held_history: the history of the state in the slot that is held
--   Steps PassesTurn: the seat has given the slot back, and has seen what it left there
--   Steps MergesTold: the seat has seen what it was told, and what told it has the same fixed part
--   Views has_ticket: 1 where the stage has a ticket
--   Views is_at_rest: 1 where the stage can take in another seat for good
--   Views tickets_of: how many tickets the view has
--   Views share_of: how many of the book's seats the view stands for
--   Views members_at: the members that the view stands for, by its stage
--   Views members_of
--   Views waiting_view: it has drawn the ticket t
--   Views inside_view: it has the turn, and with it the whole history xs
--   Views outside_view: it has left the history xs
--   Views note_view: a note of what the view has seen
--   Views told_view: it has taken in a note
--   Views merged_view: it has seen what it was told
--   Views view_after_making: the maker, after it has made the next seat
--   Views new_seat_view: the seat that the maker makes
--   Views gathered_view: it has taken in another seat for good
--   Views spent_view: it was taken in
pub mod Views
pub mod Rule
pub mod Steps
pub mod Seats
pub use Views.{has_ticket, is_at_rest, tickets_of, share_of, members_at, members_of, waiting_view}
pub use Views.{inside_view, outside_view, note_view, told_view, merged_view, view_after_making}
pub use Views.{new_seat_view, gathered_view, spent_view}
pub use Rule.{IsMember, AreMembers, Owns, Knows, Apart, AtHome, Away, IsOpeningOrSeen, IsFree}
pub use Rule.{OneHistory, first_view}
pub use Steps.{DrawsTicket, TakesTurn, held_history, PassesTurn, MergesTold}
pub use Seats.{book_id, opening_of, seat_count, seat_book, number, fixed_part, seen_by, IsSeatOf}
pub use Seats.{IsOutside, IsWaiting, IsSameSeat, IsSeatOutside, IsNewSeat, AreNewSeats, AreSeatsAt}
pub use Seats.{IsSeenBySome, IsMaker, member_of, HasGathered}
pub use declared.book.Book.{Book}
pub use declared.rule.Opening.{Opening}
pub use declared.seat.BookSeat.{BookSeat}
pub use declared.view.Stage.{Stage}
pub use declared.view.Stage.TheVariants.{Closing, Inside, Maker, Note, Outside, Spent, Waiting}
pub use declared.view.View.{View}

-- What a clause says of a book and its seats.
use Rattle.std.specs.Prelude.{◌≡◌, ℕ, ◌%◌, ◌^◌, List, [], ◌∷◌, Option, Some, None}
use Rattle.std.specs.List.{slice_get}
use Rattle.atomic_table.specs.Seated.{TableId}
use Rattle.atomic_table.specs.declared.shared.Seat.{Seat}
use Rattle.host_turn.specs.declared.view.View.{View}
use Rattle.host_turn.specs.declared.book.Book.{Book}
use Rattle.host_turn.specs.declared.seat.BookSeat.{BookSeat}
use Rattle.host_turn.specs.declared.view.Stage.TheVariants.{Maker, Outside, Waiting, Inside, Note}
use Rattle.host_log.specs.History.{entries_of}
use Rattle.host_turn.specs.Views.{is_at_rest, members_of}
use Rattle.host_log.specs.Seen.{Holder}

module _ {S E F : Type 0} where
  -- which book it is
  abbrev pub book_id : Book S E F → TableId
  book_id b = b.table.shared.table_id

  -- the state that it was made with
  abbrev pub opening_of : Book S E F → S
  opening_of b = b.table.shared.key.state.value

  -- how many seats it was made with
  abbrev pub seat_count : Book S E F → ℕ
  seat_count b = b.table.shared.key.seats

  -- which book a seat is of
  abbrev pub seat_book : BookSeat S E F → TableId
  seat_book q = q.seat.table_id

  abbrev pub number : BookSeat S E F → ℕ
  number q = q.seat.me.0.number

  -- the fixed part of its book's state
  abbrev pub fixed_part : BookSeat S E F → Option F
  fixed_part q = q.seat.me.0.fixed

  -- the beginning of the history that the seat has seen
  abbrev pub seen_by : BookSeat S E F → List E
  seen_by q = q.seat.me.0.seen

  -- the entries that the seat made
  abbrev pub own_entries : (E → ℕ) → BookSeat S E F → List E
  own_entries maker q = entries_of maker (number q) (seen_by q)

  abbrev pub IsSeatOf : Book S E F → BookSeat S E F → Type 0
  IsSeatOf b q = seat_book q ≡ book_id b

  -- it has no ticket and no turn
  abbrev pub IsOutside : BookSeat S E F → Type 0
  IsOutside q = (q.seat.me.0.stage ≡ Outside) × (q.seat.me.1 ≡ []) × (q.seat.me.0.share ≡ 1)

  -- it has a ticket
  abbrev pub IsWaiting : ℕ → BookSeat S E F → Type 0
  IsWaiting ticket q =
      (q.seat.me.0.stage ≡ Waiting) × (q.seat.me.1 ≡ []) × (ticket ≡ q.seat.me.0.ticket % 2 ^ 64)
      × (q.seat.me.0.share ≡ 1)

  -- it has the turn, and its state was handed out
  abbrev pub IsInside : BookSeat S E F → Type 0
  IsInside q =
      (q.seat.me.0.stage ≡ Inside) × (q.seat.me.1 ≡ (0, None) ∷ []) × (q.seat.me.0.share ≡ 1)

  -- the same seat, at another time
  abbrev pub IsSameSeat : BookSeat S E F → BookSeat S E F → Type 0
  IsSameSeat p q =
      (seat_book q ≡ seat_book p) × (q.seat.id ≡ p.seat.id) × (number q ≡ number p)
      × (fixed_part q ≡ fixed_part p)

  -- it may enter this book
  abbrev pub IsSeatOutside : Book S E F → BookSeat S E F → Type 0
  IsSeatOutside b q = IsSeatOf b q × IsOutside q

  -- a seat of a book that was made with the state x, before its first turn
  abbrev pub IsNewSeat : (S → List E) → (S → F) → TableId → S → ℕ → BookSeat S E F → Type 0
  IsNewSeat story fixed b x n q =
      (seat_book q ≡ b) × IsOutside q × (number q ≡ n) × (seen_by q ≡ story x)
      × (fixed_part q ≡ Some (fixed x))

  -- the seats are numbered from 0
  abbrev pub AreNewSeats : (S → List E) → (S → F) → TableId → S → List (BookSeat S E F) → Type 0
  AreNewSeats story fixed b x qs =
      (n : ℕ) (q : BookSeat S E F) → slice_get qs n ≡ Some q → IsNewSeat story fixed b x n q

  -- the k-th seat is outside the k-th of these books, with this number
  abbrev pub AreSeatsAt : List TableId → ℕ → List (BookSeat S E F) → Type 0
  AreSeatsAt ids n qs =
      (k : ℕ) (q : BookSeat S E F) → slice_get qs k ≡ Some q
      → (slice_get ids k ≡ Some (seat_book q)) × IsOutside q × (number q ≡ n)

  -- some seat of the list has seen just this history
  abbrev pub IsSeenBySome : List (BookSeat S E F) → List E → Type 0
  IsSeenBySome qs xs = (n : ℕ) × (q : BookSeat S E F) × (slice_get qs n ≡ Some q) × (seen_by q ≡ xs)

  -- the first seat of the table, which makes the others, and has made n of them
  abbrev pub IsMaker : (S → List E) → (S → F) → Book S E F → ℕ → ℕ → Seat (Option S) (View E F)
      → Type 0
  IsMaker story fixed b left n m =
      (m.table_id ≡ book_id b) × (m.me.0.stage ≡ Maker) × (m.me.0.share ≡ left)
      × (m.me.0.number ≡ n) × (m.me.0.seen ≡ story (opening_of b))
      × (m.me.0.fixed ≡ Some (fixed (opening_of b)))

  -- a note, which tells what a seat of this book has seen
  abbrev pub IsNote : TableId → Seat (Option S) (View E F) → Type 0
  IsNote b m = (m.table_id ≡ b) × (m.me.0.stage ≡ Note) × (m.me.1 ≡ [])

  -- the history that a note tells
  abbrev pub told_by : Seat (Option S) (View E F) → List E
  told_by m = m.me.0.seen

  -- the fixed part that goes with it
  abbrev pub fixed_part_of : Seat (Option S) (View E F) → Option F
  fixed_part_of m = m.me.0.fixed

  abbrev pub member_of : BookSeat S E F → Holder E
  member_of q = (number q, seen_by q)

  -- the seat has taken in others, and stands for n seats, which are these members
  abbrev pub HasGathered : Book S E F → BookSeat S E F → ℕ → List (Holder E) → Type 0
  HasGathered b q n ms =
      IsSeatOf b q × (is_at_rest q.seat.me.0.stage ≡ 1) × (q.seat.me.1 ≡ [])
      × (q.seat.me.0.share ≡ n) × (members_of q.seat.me.0 ≡ ms)

-- What is defined here, by file.
--   Ends greatest
--   Ends closers_of: index and reqid of each closing member among these rows
--   Ends IsEnd: the end of an instance with these rows
--   Ends members_of: the members of the instance j of the number g
--   Ends row_of: the row with which a member came back
--   Ends instance_rows: the rows of the instance, in the order in which its members were admitted
--   Ends end_in_row: the end in the words that a row took out
--   Ends end_at
--   Ends end_of: the end that a member's settling told
--   Ends ends_of: the ends that the members of these rows were told
--   Ends HasOneEnd: one of the members was told an end, and it is that of the instance
--   Ends HasItsEnd: a closed instance has its end, and one that isn't closed has none
--   Ends AreThoseAdmitted: the rows that came back are those of the members that were admitted
--   Ends HaveRows: each member has its row
--   Failures no_failure: the word where nobody failed, the greatest of all
--   Failures failure_word: how a member with this index ended, as one number
--   Failures status_of_bits: the status of a failure, by the last three bits of its word
--   Failures status_of: the status that a word tells
--   PlainRows empty_cell
--   PlainRows plain_cell: the cell of a number
--   PlainRows added_cell
--   PlainRows settled_cell
--   PlainRows cell_end
--   PlainRows whole: what these rows come to
--   PlainRows HasCome: the cell has come to what rows come to
--   PlainRows HasRows: these are the rows of the number's current instance, in the order in ..
--   PlainRows IsRowWaiting: the i-th row is that of the member with this index, which hasn't ..
--   PlainRows settled_row: the row, once its member has settled
--   PlainRows IsGoingOn: some member of the instance hasn't settled, or none closes it
--   Rule Cell: the words of one number
--   Rule cell
--   Rule Folds: a word that folds numbers is what they come to, until it is taken out
--   Rule IsCellCurrent: the instance that members are admitted to and settle in the claim is 1 ..
--   Rule IsInstanceOver: an instance that has ended
--   Rule IsInstance: of the instances of a number the first ones are over, and the one after ..
--   Rule is_admitting: 1 where the stage is one of the admitting seat
--   Rule claim_of
--   Rule claim
--   Rule OneEnd: the rule
--   Seats cells_id: which cells they are
--   Seats seat_cells: the cells that a seat is of
--   Seats view_of
--   Seats admitted: all members that the seat admitted, in order
--   Seats back: the members whose rights came back, the last first, each with what it settled ..
--   Seats next: above each index that the seat admitted
--   Seats refusals: how many of the seat's looks at a cell found a closed instance
--   Seats row: the member that a right is for, and how far it is settled
--   Seats member: a member of the instance j of the number g
--   Seats IsSeatAt
--   Seats IsAdmittingOf: the admitting seat of these cells, at rest
--   Seats IsAdmitting
--   Seats IsClaiming: the admitting seat, about to add a member of the number g
--   Seats IsRightOf: the right to settle a member of the number g in these cells
--   Seats IsRight
--   Seats IsSeatUnused: the right wasn't used
--   Seats IsUsed: the right was used
--   Seats IsFewerOut: fewer than n rights are out
--   Seats IsNoneOut: no right is out
--   Steps Seated
--   Steps IsBusy: the last instance of the number is closed, and not all of its rights came back
--   Steps Looks: where the word shows a closed instance that is counted, else the member's name ..
--   Steps Places: the name of a closing member stands in the closing word
--   Steps AddsMember
--   Steps PutsError
--   Steps PutsDeviceFront
--   Steps PutsMemoryFront
--   Steps IsLast: the word shows one unsettled member, and the closed mark: whoever settles ..
--   Steps Settles: the member is settled, and its row has what the subtraction found
--   Steps TakesError
--   Steps TakesDeviceFront
--   Steps TakesMemoryFront
--   Steps TakesClosing
--   Steps Frees: the number can be used again
--   Tallies Tally
--   Tallies nothing
--   Tallies both: numbers add up; of the errors the least counts, and of the fronts the greatest
--   Tallies unsettled_of
--   Tallies ending_of
--   Tallies ended_of
--   Tallies error_out_of
--   Tallies device_front_out_of
--   Tallies memory_front_out_of
--   Tallies closing_out_of
--   Tallies told_number: what an end tells counts from the last subtraction on
--   Tallies if_last
--   Tallies tally_of: what one row comes to
--   Tallies row_tally: the same, where the row is of the instance j of the number g
--   Tallies rows_tally
--   Tallies tally_at: what a view's rows come to, by its stage
--   Tallies view_tally
--   Tallies tally: what the rows of all views come to
--   Tallies weight_at: the members of a view's rows, weighed by φ
--   Tallies weight
--   Views bit
--   Views where_in: x for a member of the instance j of the number g, else y
--   Views is_in_instance: 1 for a member of the instance
--   Views member_count: how many members of the instance there are
--   Views row_count: how many rows of the instance there are
--   Views closes_of_group: 1 for a closing member of the number g
--   Views members_closing: how many closing members of the number there are
--   Views is_beyond: 1 where no cell has the member's number
--   Views name_of: the index and the reqid in one word
--   Views IsRising: the indexes rise from one number on, and stay below another
--   Views no_member
--   Views fresh_row: a member that has settled nothing
--   Views first_cell_view: the admitting seat of new cells
--   Views spent_cell_view: a seat that was joined to another
--   Views refused_view: it found a closed instance
--   Views looking_cell_view: it found the number g without a closed instance, for a member with ..
--   Views placed_view: it put that name into the closing word
--   Views new_member
--   Views added_view: it added the member
--   Views view_after_splitting: it gave the right away
--   Views right_view: the right to settle the member that was added
--   Views joined_view: a right came back
--   Views with_row
pub mod Failures
pub mod Views
pub mod Tallies
pub mod Rule
pub mod Steps
pub mod Seats
pub mod Ends
pub mod PlainRows
pub use Failures.{no_failure, failure_word, status_of_bits, status_of}
pub use Views.{bit, where_in, is_in_instance, member_count, row_count, closes_of_group}
pub use Views.{members_closing, is_beyond, name_of, IsRising, fresh_row, first_cell_view}
pub use Views.{spent_cell_view, refused_view, looking_cell_view, placed_view, new_member}
pub use Views.{added_view, view_after_splitting, right_view, joined_view, with_row}
pub use Tallies.{Tally, nothing, both, unsettled_of, ending_of, ended_of, error_out_of}
pub use Tallies.{device_front_out_of, memory_front_out_of, closing_out_of, told_number, if_last}
pub use Tallies.{tally_of, row_tally, rows_tally, tally_at, view_tally, tally, weight_at, weight}
pub use Rule.{Cell, cell, Folds, IsCellCurrent, IsInstanceOver, IsInstance, is_admitting, claim_of}
pub use Rule.{claim, OneEnd}
pub use Steps.{IsBusy, Looks, Places, AddsMember, PutsError, PutsDeviceFront, PutsMemoryFront}
pub use Steps.{IsLast, Settles, TakesError, TakesDeviceFront, TakesMemoryFront, TakesClosing, Frees}
pub use Seats.{cells_id, seat_cells, view_of, admitted, back, next, row, member, IsAdmittingOf}
pub use Seats.{IsAdmitting, IsRightOf, IsRight, IsSeatUnused, IsUsed, IsFewerOut, IsNoneOut}
pub use Ends.{greatest, closers_of, IsEnd, members_of, row_of, instance_rows, end_in_row, end_at}
pub use Ends.{end_of, ends_of, HasOneEnd, HasItsEnd, AreThoseAdmitted, HaveRows}
pub use PlainRows.{empty_cell, plain_cell, added_cell, settled_cell, cell_end, whole, HasCome}
pub use PlainRows.{HasRows, IsRowWaiting, settled_row, IsGoingOn}
pub use declared.cells.Cells.{Cells}
pub use declared.group_end.GroupEnd.{GroupEnd}
pub use declared.plain_cells.PlainCell.{PlainCell}
pub use declared.plain_cells.PlainCells.{PlainCells}
pub use declared.seat.CellSeat.{CellSeat}
pub use declared.view.Member.{Member}
pub use declared.view.Progress.{Progress}
pub use declared.view.Progress.TheVariants.{Ended, Last, Passed, TookClosing, TookDeviceFront}
pub use declared.view.Progress.TheVariants.{TookError, TookMemoryFront, Unsettled}
pub use declared.view.Row.{Row}
pub use declared.view.Stage.{Stage}
pub use declared.view.Stage.TheVariants.{Added, Looked, Placed, Resting, Right, Spent}
pub use declared.view.View.{View}

-- What a clause says of cells and their seats.
use Rattle.std.specs.Prelude.{◌≡◌, ◌⊎◌, ℕ, ◌+◌, ◌<◌, List, [], length, Bool}
use Rattle.atomic_table.specs.Seated.{TableId}
use Rattle.host_group.specs.declared.view.View.{View}
use Rattle.host_group.specs.declared.view.Row.{Row}
use Rattle.host_group.specs.declared.view.Member.{Member}
use Rattle.host_group.specs.declared.view.Stage.{Stage}
use Rattle.host_group.specs.declared.view.Stage.TheVariants.{Resting, Right}
use Rattle.host_group.specs.declared.view.Progress.TheVariants.{Ended, Passed}
use Rattle.host_group.specs.declared.cells.Cells.{Cells}
use Rattle.host_group.specs.declared.seat.CellSeat.{CellSeat}
use Rattle.host_group.specs.Views.{members_closing, fresh_row}

-- which cells they are
abbrev pub cells_id : Cells → TableId
cells_id c = c.table.shared.table_id

-- the cells that a seat is of
abbrev pub seat_cells : CellSeat → TableId
seat_cells q = q.seat.table_id

abbrev pub view_of : CellSeat → View
view_of q = q.seat.me.0

-- all members that the seat admitted, in order
abbrev pub admitted : CellSeat → List Member
admitted q = q.seat.me.0.admitted

-- the members whose rights came back, the last first, each with what it settled with and the end
-- that it was told
abbrev pub back : CellSeat → List Row
back q = q.seat.me.0.back

-- above each index that the seat admitted
abbrev pub next : CellSeat → ℕ
next q = q.seat.me.0.next

-- how many of the seat's looks at a cell found a closed instance
abbrev pub refusals : CellSeat → ℕ
refusals q = q.seat.me.0.refusals

-- the member that a right is for, and how far it is settled
abbrev pub row : CellSeat → Row
row q = q.seat.me.0.row

-- a member of the instance j of the number g
abbrev pub member : ℕ → ℕ → ℕ → ℕ → Bool → Member
member g j index reqid last =
    record { number = g; instance = j; index = index; reqid = reqid; last = last }

abbrev pub IsSeatAt : Stage → Cells → CellSeat → Type 0
IsSeatAt stage c q =
    (seat_cells q ≡ cells_id c) × (q.seat.id ≡ 0) × (q.seat.me.1 ≡ []) × (q.seat.me.0.stage ≡ stage)

-- the admitting seat of these cells, at rest
abbrev pub IsAdmittingOf : TableId → CellSeat → Type 0
IsAdmittingOf cells q =
    (seat_cells q ≡ cells) × (q.seat.id ≡ 0) × (q.seat.me.1 ≡ []) × (q.seat.me.0.stage ≡ Resting)

abbrev pub IsAdmitting : Cells → CellSeat → Type 0
IsAdmitting c q = IsAdmittingOf (cells_id c) q

-- the admitting seat, about to add a member of the number g
abbrev pub IsClaiming : Stage → Cells → ℕ → CellSeat → Type 0
IsClaiming stage c g q =
    IsSeatAt stage c q × ((row q).member.number ≡ g)
    × ((row q).member.instance ≡ members_closing g (admitted q))

-- the right to settle a member of the number g in these cells
abbrev pub IsRightOf : TableId → ℕ → CellSeat → Type 0
IsRightOf cells g q =
    (seat_cells q ≡ cells) × (q.seat.me.1 ≡ []) × (q.seat.me.0.stage ≡ Right)
    × ((row q).member.number ≡ g) × (g < 8)

abbrev pub IsRight : Cells → ℕ → CellSeat → Type 0
IsRight c g q = IsRightOf (cells_id c) g q

-- the right wasn't used
abbrev pub IsSeatUnused : CellSeat → Type 0
IsSeatUnused q = row q ≡ fresh_row (row q).member

-- the right was used
abbrev pub IsUsed : CellSeat → Type 0
IsUsed q = ((row q).progress ≡ Ended) ⊎ ((row q).progress ≡ Passed)

-- fewer than n rights are out
abbrev pub IsFewerOut : CellSeat → ℕ → Type 0
IsFewerOut q n = length (admitted q) < length (back q) + n

-- no right is out
abbrev pub IsNoneOut : CellSeat → Type 0
IsNoneOut q = length (admitted q) ≡ length (back q)

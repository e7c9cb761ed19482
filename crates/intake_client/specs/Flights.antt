-- Records that were taken and have not ended.
use Rattle.std.specs.Prelude.{◌≡◌, ◌≢◌, ℕ, MatchOption, ◌∷◌, ◌++◌, [], Bool, true, false, ◌==◌}
use Rattle.std.specs.Prelude.{◌||◌, List, slice_get, Option, Some}
use Rattle.std.specs.List.{list_any}
use Rattle.atomic_table.specs.Seated.{TableId}
use Rattle.host_group.specs.declared.seat.CellSeat.{CellSeat}
use Rattle.host_group.specs.Seats.{seat_cells}
use Rattle.host_rings.specs.declared.envelope.Envelope.{Envelope}
use Rattle.host_rings.specs.declared.slip.Slip.{Slip}
use Rattle.host_intake.specs.declared.entry.IntakeEntry.TheVariants.{Landed}
use Rattle.host_intake.specs.declared.entry.RecordEnd.{RecordEnd}
use Rattle.host_intake.specs.Entries.{Taking, Landing, takings, landings}
use Rattle.host_intake.specs.Rights.{HasRight}
use Rattle.host_intake.specs.State.{IntakeState}
use Rattle.host_intake.specs.Told.{is_open}
use Rattle.host_intake.specs.Waits.{is_waiting_at}
use Rattle.intake_client.specs.declared.flight.Flight.{Flight}

-- The record was taken so and has not ended; its right is there where it is a member, and is
-- unused.
pub record IsTakenSo (cells : TableId) (ts : List Taking) (ls : List Landing) (e : Envelope)
    (right : Option CellSeat) (t : Taking) : Type 0 where
  pub at : slice_get ts e.index ≡ Some t
  pub envelope : t.envelope ≡ e
  pub still_open : is_open ls e.index ≡ true
  pub right_is : HasRight cells ts t right

-- the same of a record that the hand took, and that doesn't wait for pins
abbrev pub IsFlying : ℕ → TableId → List Taking → List Landing → Flight → Type 0
IsFlying hand cells ts ls f =
    (t : Taking) × IsTakenSo cells ts ls f.envelope f.right t × (t.hand ≡ hand) × (t.waits ≡ false)

abbrev pub Flies : ℕ → IntakeState → Flight → Type 0
Flies hand s f = IsFlying hand (seat_cells s.cell_seat) (takings s.entries) (landings s.entries) f

-- The hand may tell the end of that record: the hand took it or it waited for pins, and no close of
-- that index waits.
abbrev pub CanLand : ℕ → IntakeState → Envelope → Option CellSeat → Type 0
CanLand hand s e right =
    (t : Taking)
    × IsTakenSo (seat_cells s.cell_seat) (takings s.entries) (landings s.entries) e right t
    × ((t.hand == hand || t.waits) ≡ true) × (list_any (is_waiting_at e.index) s.waiting ≡ false)

-- The hand told the end of record i.
abbrev pub HasLanded : ℕ → ℕ → IntakeState → IntakeState → Type 0
HasLanded hand i old new =
    (end : RecordEnd) × (answer : Option Slip) × (kept : Bool)
    × (new
    ≡ record old {
      entries = old.entries ++ Landed hand i end answer kept ∷ [];
      cell_seat = new.cell_seat;
    }) × (seat_cells new.cell_seat ≡ seat_cells old.cell_seat)

-- the fixed part of an intake, and which cells it is of, as they were
abbrev pub IsAsMade : IntakeState → IntakeState → Type 0
IsAsMade old new =
    (new.memory_seat ≡ old.memory_seat) × (seat_cells new.cell_seat ≡ seat_cells old.cell_seat)

-- the record, if there is one, flies
abbrev pub FliesIfAny : ℕ → IntakeState → Option Flight → Type 0
FliesIfAny hand s f = MatchOption f (Unit {0}) (λ g. Flies hand s g)

-- it is another record than that of index i, if there is one
abbrev pub IsOtherThan : ℕ → Option Flight → Type 0
IsOtherThan i f = MatchOption f (Unit {0}) (λ g. i ≢ g.envelope.index)

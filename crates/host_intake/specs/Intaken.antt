-- What is true of every intake.
use Rattle.std.specs.Prelude.{◌≡◌, ℕ, ◌+◌, ◌<◌, ◌≤◌, Bool, true, false, ◌==◌, List, [], ◌∷◌, length}
use Rattle.std.specs.Prelude.{map, take, drop, IsTrue, Option, Some, None, MatchOption}
use Rattle.std.specs.List.{list_all}
use Rattle.host_rings.specs.declared.envelope.Envelope.{Envelope}
use Rattle.host_rings.specs.RequestEnds.{TakerState}
use Rattle.host_group.specs.Seats.{seat_cells}
use Rattle.host_turn.specs.Seats.{IsOutside, number, seen_by}
use Rattle.host_intake.specs.declared.entry.IntakeEntry.{IntakeEntry}
use Rattle.host_intake.specs.declared.entry.IntakeEntry.TheVariants.{Turned}
use Rattle.host_intake.specs.declared.entry.Phase.TheVariants.{Closed}
use Rattle.host_intake.specs.Entries.{takings, landings, envelope_of}
use Rattle.host_intake.specs.Ledgers.{is_course}
use Rattle.host_intake.specs.Members.{AreLanded, AreInCells}
use Rattle.host_intake.specs.State.{IntakeState, MemorySeat, IsForAdmissions}
use Rattle.host_intake.specs.Takings.{AreTaken}
use Rattle.host_intake.specs.Told.{turns, phase_in, was_aborted, flights_in, kept_slips}
use Rattle.host_intake.specs.Waits.{AreWaiting}
use Rattle.host_memory.specs.Kept.{listed}

-- What was popped is what was taken and at most one record more, which is held, or which an abort
-- dropped.
pub record ArePopped (room : ℕ) (es : List IntakeEntry) (held : Option Envelope)
    (taker : TakerState) : Type 0 where
  pub taken : take (length (takings es)) taker.taken ≡ map envelope_of (takings es)
  pub left : was_aborted es ≡ false → drop (length (takings es)) taker.taken ≡ listed held
  pub dropped : was_aborted es ≡ true → held ≡ None
  pub next : MatchOption held (Unit {0}) (λ e. e.index ≡ length (takings es))
  pub one : length taker.taken ≤ length (takings es) + 1
  pub records : length taker.taken ≤ taker.records
  pub in_room : taker.records ≤ room
  pub fits : room < 4294967296

-- a turn was made under the client's number, one below the admissions'
abbrev pub is_turned_below : ℕ → IntakeEntry → Bool
is_turned_below number (Turned hand phase) = hand + 1 == number
is_turned_below number _ = true

-- The session was turned by the client alone, and ended before it was closed.
pub record AreTurned (number : ℕ) (es : List IntakeEntry) : Type 0 where
  pub by_client : IsTrue (list_all (is_turned_below number) es)
  pub course : IsTrue (is_course (turns es))
  pub over : phase_in es ≡ Closed → length (landings es) ≡ length (takings es)

-- the seat that rests in the intake
pub record IsResting (room : ℕ) (seat : MemorySeat) : Type 0 where
  pub outside : IsOutside seat
  pub admissions : IsForAdmissions room seat

pub record IsIntake (s : IntakeState) : Type 0 where
  pub popped : ArePopped s.room s.entries s.held s.taker
  pub resting : IsResting s.room s.memory_seat
  pub taken : AreTaken s.part (number s.memory_seat) (seen_by s.memory_seat) (takings s.entries)
  pub landed : AreLanded (takings s.entries) (landings s.entries)
  pub cells : AreInCells (takings s.entries) (landings s.entries) s.cell_seat
  pub waiting : AreWaiting (seat_cells s.cell_seat) (takings s.entries) (landings s.entries)
      s.waiting
  pub turned : AreTurned (number s.memory_seat) s.entries
  pub limit : flights_in s.entries + length (kept_slips s.entries) ≤ 64

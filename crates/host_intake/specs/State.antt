-- What contracts see of an intake.
use Rattle.std.specs.Prelude.{◌≡◌, ℕ, ◌+◌, ◌≤◌, Bool, List, Option, MatchOption}
use Rattle.host_block.specs.declared.range.Range.{Range}
use Rattle.host_group.specs.declared.seat.CellSeat.{CellSeat}
use Rattle.host_group.specs.Seats.{seat_cells}
use Rattle.host_memory.specs.declared.limits.MemoryPlan.{MemoryPlan}
use Rattle.host_memory.specs.State.{MemoryState}
use Rattle.host_model.specs.declared.memory.MemEntry.{MemEntry}
use Rattle.host_rings.specs.declared.envelope.Envelope.{Envelope}
use Rattle.host_rings.specs.RequestEnds.{TakerState}
use Rattle.host_turn.specs.declared.seat.BookSeat.{BookSeat}
use Rattle.host_turn.specs.Seats.{seat_book, number, fixed_part}
use Rattle.host_intake.specs.declared.entry.IntakeEntry.{IntakeEntry}
use Rattle.host_intake.specs.declared.plan.IntakePlan.{IntakePlan}
use Rattle.host_intake.specs.declared.waiting.Waiting.{Waiting}

-- a seat at the book of a session's buffers
abbrev pub MemorySeat : Type 0
MemorySeat = BookSeat MemoryState MemEntry MemoryPlan

pub record IntakeState : Type 0 where
  -- the partition, the bytes of a block, for how many records everything is reserved, and whether
  -- their rows are kept
  pub part : Range
  pub size : ℕ
  pub room : ℕ
  pub keeps : Bool
  -- what was done, and by whom, the oldest first
  pub entries : List IntakeEntry
  -- the record that was popped and is not yet taken
  pub held : Option Envelope
  -- the closes that wait for pins
  pub waiting : List Waiting
  -- what only the holder of the turn uses
  pub taker : TakerState
  pub memory_seat : MemorySeat
  pub cell_seat : CellSeat

-- the fixed part
abbrev pub plan_of_intake : IntakeState → IntakePlan
plan_of_intake s = record {
  part = s.part;
  size = s.size;
  room = s.room;
  keeps = s.keeps;
  admissions = number s.memory_seat;
  ring = s.taker.ring;
  memory = seat_book s.memory_seat;
  cells = seat_cells s.cell_seat;
}

-- The seat has the admissions' number, one above the client's, of a memory that was made for so
-- many records.
abbrev pub IsForAdmissions : ℕ → MemorySeat → Type 0
IsForAdmissions records seat =
    MatchOption (fixed_part seat) ⊥
    (λ plan. (number seat ≡ plan.limits.hands + 1) × (records ≤ plan.limits.records))

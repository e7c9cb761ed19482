-- The fixed part of a session, and what belongs to it.
use Rattle.std.specs.Prelude.{◌≡◌, ℕ, ◌+◌, ◌*◌, min, List, [], length, Some}
use Rattle.atomic_table.specs.Seated.{TableId}
use Rattle.host_frames.specs.declared.pool.Pool.{Pool}
use Rattle.host_frames.specs.declared.seat.PoolSeat.{PoolSeat}
use Rattle.host_frames.specs.Seats.{pool_id, seat_pool}
use Rattle.host_group.specs.Seats.{cells_id}
use Rattle.host_intake.specs.declared.entry.IntakeEntry.{IntakeEntry}
use Rattle.host_intake.specs.declared.plan.IntakePlan.{IntakePlan}
use Rattle.host_intake.specs.State.{IntakeState, plan_of_intake}
use Rattle.host_memory.specs.declared.limits.MemoryPlan.{MemoryPlan}
use Rattle.host_memory.specs.State.{MemoryState}
use Rattle.host_model.specs.declared.memory.MemEntry.{MemEntry}
use Rattle.host_rings.specs.Places.{EachPlace}
use Rattle.host_rings.specs.RequestEnds.{RingId}
use Rattle.host_turn.specs.declared.book.Book.{Book}
use Rattle.host_turn.specs.declared.seat.BookSeat.{BookSeat}
use Rattle.host_turn.specs.Seats.{IsOutside, book_id, fixed_part, number, opening_of, seat_book}
use Rattle.host_turn.specs.Seats.{seat_count, seen_by}
use Rattle.host_session.specs.declared.hand.SessionHand.{SessionHand}
use Rattle.host_session.specs.declared.shared.SessionShared.{SessionShared}
use Rattle.host_session.specs.declared.spec.SessionSpec.{SessionSpec}

abbrev pub IntakeBook : Type 0
IntakeBook = Book IntakeState IntakeEntry IntakePlan

abbrev pub MemoryBook : Type 0
MemoryBook = Book MemoryState MemEntry MemoryPlan

pub record SessionPlan : Type 0 where
  -- what it was opened with: its spec, the number of its hands, and the pool of its pages
  pub spec : SessionSpec
  pub hands : ℕ
  pub pool : TableId × ℕ
  -- which books, cells and rings it has
  pub intake : TableId
  pub memory : TableId
  pub cells : TableId
  pub requests : RingId
  pub answers : RingId

-- how many buffers it may give
abbrev pub id_limit : SessionSpec → ℕ
id_limit spec = min spec.attaches 65535

-- the fixed part of the buffers
abbrev pub memory_plan_for : SessionSpec → ℕ → TableId × ℕ → MemoryPlan
memory_plan_for spec hands pool = record {
  limits = record {
    size = spec.size;
    ids = id_limit spec;
    room = 3 * id_limit spec + spec.events;
    records = spec.records;
    moves = spec.memory_room;
    hands = hands;
    keeps = spec.keeps;
  };
  pool = pool;
}

abbrev pub memory_plan : SessionPlan → MemoryPlan
memory_plan p = memory_plan_for p.spec p.hands p.pool

-- the fixed part of its intake
abbrev pub intake_plan : SessionPlan → IntakePlan
intake_plan p = record {
  part = p.spec.part;
  size = p.spec.size;
  room = p.spec.records;
  keeps = p.spec.keeps;
  admissions = p.hands + 1;
  ring = p.requests;
  memory = p.memory;
  cells = p.cells;
}

-- A seat at one of its books, with this number, which has neither a ticket nor the turn.
pub record IsSeatIn {S E F : Type 0} (book : TableId) (plan : F) (n : ℕ) (q : BookSeat S E F)
    : Type 0 where
  pub book_is : seat_book q ≡ book
  pub outside : IsOutside q
  pub number_is : number q ≡ n
  pub plan_is : fixed_part q ≡ Some plan

-- The part that all share: books that were made for the hands and the client, one seat more at the
-- memory's for the admissions, with nothing done yet; and cells.
pub record IsShared (p : SessionPlan) (shared : SessionShared) : Type 0 where
  pub books : (book_id shared.intake ≡ p.intake) × (book_id shared.memory ≡ p.memory)
  pub cells : cells_id shared.cells ≡ p.cells
  pub seats : (seat_count shared.intake ≡ p.hands + 1) × (seat_count shared.memory ≡ p.hands + 2)
  pub plans : (plan_of_intake (opening_of shared.intake) ≡ intake_plan p)
      × ((opening_of shared.memory).plan ≡ memory_plan p)
  pub nothing : ((opening_of shared.intake).entries ≡ [])
      × ((opening_of shared.memory).entries ≡ [])

-- hand k: its seats and its end of the answer ring have its number
pub record IsHand (p : SessionPlan) (k : ℕ) (hand : SessionHand) : Type 0 where
  pub intake : IsSeatIn p.intake (intake_plan p) k hand.intake
  pub memory : IsSeatIn p.memory (memory_plan p) k hand.memory
  pub sender : (hand.sender.ring ≡ p.answers) × (hand.sender.number ≡ k)

-- it has seen nothing, and done nothing
pub record IsFreshHand (hand : SessionHand) : Type 0 where
  pub intake : seen_by hand.intake ≡ []
  pub memory : seen_by hand.memory ≡ []
  pub sender : hand.sender.pushed ≡ []

-- these are all its hands, by their numbers
abbrev pub AreAllHands : SessionPlan → List SessionHand → Type 0
AreAllHands p hands = (length hands ≡ p.hands) × EachPlace (IsHand p) hands

-- the pool of its pages, and a seat at it
abbrev pub IsItsPool : SessionPlan → Pool → PoolSeat → Type 0
IsItsPool p pool seat = (pool_id pool ≡ p.pool) × (seat_pool seat ≡ p.pool)

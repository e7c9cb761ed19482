-- A session as it is opened.
use Rattle.std.specs.Prelude.{◌≡◌, ℕ, ◌+◌, List, [], length, map, false, None, All, vec_capacity}
use Rattle.atomic_table.specs.Seated.{TableId}
use Rattle.host_intake.specs.State.{MemorySeat, plan_of_intake}
use Rattle.host_rings.specs.AnswerEnds.{slip_taker_of}
use Rattle.host_rings.specs.Places.{EachPlace}
use Rattle.host_rings.specs.RequestEnds.{sender_of}
use Rattle.host_turn.specs.Seats.{AreNewSeats, IsNewSeat, book_id, opening_of, seat_count, seen_by}
use Rattle.host_session.specs.declared.hand.SessionHand.{SessionHand}
use Rattle.host_session.specs.declared.room.ClosingRoom.{ClosingRoom}
use Rattle.host_session.specs.declared.shared.SessionShared.{SessionShared}
use Rattle.host_session.specs.declared.spec.SessionSpec.{SessionSpec}
use Rattle.host_session.specs.Client.{ClientState, no_fronts}
use Rattle.host_session.specs.Kept.{IsClient}
use Rattle.host_session.specs.Plan.{AreAllHands, IntakeBook, IsFreshHand, IsShared, MemoryBook}
use Rattle.host_session.specs.Plan.{memory_plan_for}

-- a client end that has done nothing yet
pub record IsNewClient (s : ClientState) : Type 0 where
  pub client : IsClient s
  pub log : s.log ≡ []
  pub open_still : (s.finish ≡ None) × (s.closed ≡ false)
  pub fronts : s.fronts ≡ no_fronts
  pub seen : (seen_by s.intake_seat ≡ []) × (seen_by s.memory_seat ≡ [])
  pub sender : s.sender ≡ sender_of s.plan.requests s.plan.spec.depth s.plan.spec.records [] []
  pub taker : s.taker ≡ slip_taker_of s.plan.answers s.plan.spec.depth s.plan.hands [] []

-- a session of this spec, with its shared part, its client end and its hands
pub record IsSessionOpened (spec : SessionSpec) (hands : ℕ) (pool : TableId × ℕ)
    (shared : SessionShared) (client : ClientState) (all : List SessionHand) : Type 0 where
  pub plan : (client.plan.spec ≡ spec) × (client.plan.hands ≡ hands) × (client.plan.pool ≡ pool)
  pub part : IsShared client.plan shared
  pub end : IsNewClient client
  pub dealt : AreAllHands client.plan all
  pub fresh : All IsFreshHand all

-- ---- as it is being opened

-- a book of buffers without any, with a seat for each hand, one for the client and one for the
-- admissions
pub record HasNewMemory (spec : SessionSpec) (hands : ℕ) (pool : TableId × ℕ) (book : MemoryBook)
    (seats : List MemorySeat) : Type 0 where
  pub count : (seat_count book ≡ hands + 2) × (length seats ≡ hands + 2)
  pub plan : (opening_of book).plan ≡ memory_plan_for spec hands pool
  pub nothing : (opening_of book).entries ≡ []
  pub new : AreNewSeats (λ m. m.entries) (λ m. m.plan) (book_id book) (opening_of book) seats

-- new seats at both books, one of each for each sender
pub record IsToDeal (intake : IntakeBook) (memory : MemoryBook) (room : ClosingRoom) : Type 0 where
  pub intake_seats : AreNewSeats (λ s. s.entries) plan_of_intake (book_id intake)
      (opening_of intake) room.intake_seats.items
  pub memory_seats : AreNewSeats (λ m. m.entries) (λ m. m.plan) (book_id memory) (opening_of memory)
      room.memory_seats.items
  pub count : (length room.intake_seats.items ≡ length room.senders.items)
      × (length room.memory_seats.items ≡ length room.senders.items)

-- hand k has the seats of that number, both new
pub record IsDealt (intake : IntakeBook) (memory : MemoryBook) (k : ℕ) (hand : SessionHand)
    : Type 0 where
  pub intake_seat : IsNewSeat (λ s. s.entries) plan_of_intake (book_id intake) (opening_of intake) k
      hand.intake
  pub memory_seat : IsNewSeat (λ m. m.entries) (λ m. m.plan) (book_id memory) (opening_of memory) k
      hand.memory

-- the vectors have kept their room
pub record HaveRoomAs (old new : ClosingRoom) : Type 0 where
  pub intake_seats : vec_capacity new.intake_seats ≡ vec_capacity old.intake_seats
  pub memory_seats : vec_capacity new.memory_seats ≡ vec_capacity old.memory_seats
  pub senders : vec_capacity new.senders ≡ vec_capacity old.senders

-- All were dealt out: the k-th sender went to hand k.
pub record AreHandsDealt (intake : IntakeBook) (memory : MemoryBook) (old new : ClosingRoom)
    (all : List SessionHand) : Type 0 where
  pub senders : map (λ hand. hand.sender) all ≡ old.senders.items
  pub each : EachPlace (IsDealt intake memory) all
  pub empty : (new.intake_seats.items ≡ []) × (new.memory_seats.items ≡ [])
      × (new.senders.items ≡ [])
  pub room : HaveRoomAs old new

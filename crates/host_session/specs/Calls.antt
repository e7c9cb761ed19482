-- What each call of a client end answers and leaves.
use Rattle.std.specs.Prelude.{◌≡◌, ◌⊎◌, ℕ, ◌+◌, ◌<◌, Bool, true, false, not, List, [], ◌∷◌, ◌++◌}
use Rattle.std.specs.Prelude.{length, replicate, Option, Some, None, Result, Ok, Err, IsTrue}
use Rattle.std.specs.Prelude.{is_some}
use Rattle.std.specs.List.{list_all}
use Rattle.atomic_table.specs.Seated.{TableId}
use Rattle.host_frames.specs.declared.seat.PoolSeat.{PoolSeat}
use Rattle.host_frames.specs.declared.view.Claim.{Claim}
use Rattle.host_frames.specs.Claims.{IsClaimRefused}
use Rattle.host_frames.specs.Seats.{SeenPages, claims, contents, given_back, granted, pages_pool}
use Rattle.host_frames.specs.Seats.{seat_pool}
use Rattle.host_intake.specs.declared.entry.IntakeEntry.{IntakeEntry}
use Rattle.host_intake.specs.declared.entry.IntakeEntry.TheVariants.{Turned}
use Rattle.host_intake.specs.Entries.{maker_of}
use Rattle.host_intake.specs.State.{MemorySeat}
use Rattle.host_memory.specs.State.{events}
use Rattle.host_model.specs.declared.event.AttachError.{AttachError}
use Rattle.host_model.specs.declared.event.AttachError.TheVariants as attach
use Rattle.host_model.specs.declared.event.Event.{Event}
use Rattle.host_model.specs.declared.event.Event.TheVariants.{Attached, NotAttached, Filled, Shown}
use Rattle.host_model.specs.declared.event.Event.TheVariants.{Sent, Received}
use Rattle.host_model.specs.declared.memory.MemEntry.{MemEntry}
use Rattle.host_model.specs.declared.memory.MemEvent.TheVariants.{Attach, Fill, Show}
use Rattle.host_model.specs.Log.{given, sent}
use Rattle.host_model.specs.Pages.{found_by}
use Rattle.host_record.specs.declared.finish.Finish.{Finish}
use Rattle.host_record.specs.declared.response.Response.{Response}
use Rattle.host_record.specs.Response.{response_of}
use Rattle.host_rings.specs.declared.slip.Slip.{Slip}
use Rattle.host_rings.specs.AnswerEnds.{SlipTakerState}
use Rattle.host_rings.specs.AnswerEnds as answers
use Rattle.host_rings.specs.RequestEnds.{FoundFull, with_pushed}
use Rattle.host_log.specs.History.{Continues}
use Rattle.host_turn.specs.Seats.{IsOutside, IsSameSeat, number, seen_by}
use Rattle.host_session.specs.declared.error.SendError.{SendError}
use Rattle.host_session.specs.declared.error.SendError.TheVariants as send
use Rattle.host_session.specs.Acts.{is_answer, next_envelope}
use Rattle.host_session.specs.Client.{ClientState, IntakeSeat, ends_logged, greater, is_aborted}
use Rattle.host_session.specs.Client.{phase_for, slip_fronts}
use Rattle.host_session.specs.Visits.{HasTried, IsVisit, entry_by}

-- one event more in its log
abbrev pub with_event : ClientState → Event → ClientState
with_event s e = record s { log = s.log ++ e ∷ [] }

-- The seat of the buffers was inside, and the history that it left is known.
abbrev pub with_visit : ClientState → MemorySeat → ClientState
with_visit s seat =
    record s {
      fronts = record { device = s.fronts.device; memory = length (seen_by seat) };
      memory_seat = seat;
    }

-- ---- attach

-- with the seat of the pool a claim of so many frames was made: it got them
pub record HasClaimedPages (n : ℕ) (old new : PoolSeat) : Type 0 where
  pub pool : seat_pool new ≡ seat_pool old
  pub claim : Claim
  pub claims : claims new ≡ claim ∷ claims old
  pub asked : claim.asked ≡ n
  pub won : length claim.won ≡ n
  pub granted : granted new ≡ granted old + n
  pub given_back : given_back new ≡ given_back old

-- such a claim was refused
pub record WasRefused (frames n : ℕ) (old new : PoolSeat) : Type 0 where
  pub pool : seat_pool new ≡ seat_pool old
  pub claim : Claim
  pub claims : claims new ≡ claim ∷ claims old
  pub asked : claim.asked ≡ n
  pub refused : IsClaimRefused frames claim
  pub granted : granted new ≡ granted old
  pub given_back : given_back new ≡ given_back old

-- pages of this pool, all blank
pub record IsBlank (pool : TableId × ℕ) (p : SeenPages) : Type 0 where
  pub of_pool : pages_pool p ≡ pool
  pub some : 0 < length (contents p)
  pub zero : contents p ≡ replicate (length (contents p)) (replicate pool.1 0)

-- What a claim for a buffer answers: the pages, or want of memory or of frames.
abbrev pub IsClaimAnswer : ℕ → TableId × ℕ → ℕ → PoolSeat → PoolSeat → Result SeenPages AttachError
    → Type 0
IsClaimAnswer frames pool n seat seat' (Ok p) =
    HasClaimedPages n seat seat' × (pages_pool p ≡ pool)
    × (contents p ≡ replicate n (replicate pool.1 0))
IsClaimAnswer frames pool n seat seat' (Err attach.Oom) = seat' ≡ seat
IsClaimAnswer frames pool n seat seat' (Err attach.NoFrames) = WasRefused frames n seat seat'
IsClaimAnswer frames pool n seat seat' (Err _) = ⊥

-- The buffer has the next id, and its entry stands in the history that was found, no shorter than
-- the client's front.
pub record HasAttachedBuffer (pages id : ℕ) (old new : ClientState) : Type 0 where
  pub next : id ≡ length (given old.log) + 1
  pub visit : (found : List MemEntry)
      × IsVisit old.fronts.memory old.memory_seat new.memory_seat found
      (entry_by old.plan.hands (Attach id pages (length (sent old.log))) ∷ [])
  pub left : new ≡ with_event (with_visit old new.memory_seat) (Attached pages id)

-- What an attach answers, in this order: the session was drained or aborted; all ids were given;
-- want of memory; too few frames.
abbrev pub IsAttachAnswer : ℕ → ℕ → ClientState → ClientState → PoolSeat → PoolSeat
    → Result ℕ AttachError → Type 0
IsAttachAnswer frames pages old new seat seat' (Ok id) =
    (old.finish ≡ None) × HasAttachedBuffer pages id old new × HasClaimedPages pages seat seat'
IsAttachAnswer frames pages old new seat seat' (Err attach.Closed) =
    IsTrue (is_some old.finish) × (new ≡ old) × (seat' ≡ seat)
IsAttachAnswer frames pages old new seat seat' (Err attach.NoIds) =
    (old.finish ≡ None) × (length (given old.log) ≡ 65535)
    × (new ≡ with_event old (NotAttached pages attach.NoIds)) × (seat' ≡ seat)
IsAttachAnswer frames pages old new seat seat' (Err attach.Oom) =
    (old.finish ≡ None) × (length (given old.log) < 65535)
    × (new ≡ with_event old (NotAttached pages attach.Oom)) × (seat' ≡ seat)
IsAttachAnswer frames pages old new seat seat' (Err attach.NoFrames) =
    (old.finish ≡ None) × (length (given old.log) < 65535)
    × (new ≡ with_event old (NotAttached pages attach.NoFrames))
    × WasRefused frames pages seat seat'

-- ---- fill and show

-- A fill was logged, done or not; where it was done it has its entry.
pub record IsFilled (id block count byte : ℕ) (old new : ClientState) (done : Bool) : Type 0 where
  pub tried : HasTried old.fronts.memory old.plan.hands id block count (Fill id block count byte)
      done old.memory_seat new.memory_seat
  pub left : new ≡ with_event (with_visit old new.memory_seat) (Filled id block count byte done)

-- A show was logged so; where it was done, with the bytes that it found.
pub record IsShown (id block count : ℕ) (old new : ClientState) (done : Bool) : Type 0 where
  pub tried : HasTried old.fronts.memory old.plan.hands id block count (Show id block count) done
      old.memory_seat new.memory_seat
  pub bytes : List ℕ
  pub found : done ≡ true
      → found_by old.plan.spec.size (events tried.found) (Show id block count) ≡ Some bytes
  pub none : done ≡ false → bytes ≡ []
  pub left : new ≡ with_event (with_visit old new.memory_seat) (Shown id block count done bytes)

-- ---- send

abbrev pub IsSendAnswer : List ℕ → ClientState → ClientState → Result ℕ SendError → Type 0
IsSendAnswer bytes old new (Ok index) =
    (old.finish ≡ None) × (index ≡ length (sent old.log))
    × (new
    ≡ record old {
      log = old.log ++ Sent index bytes ∷ [];
      sender = with_pushed old.sender (next_envelope old.log bytes old.fronts);
    })
IsSendAnswer bytes old new (Err send.Closed) = IsTrue (is_some old.finish) × (new ≡ old)
IsSendAnswer bytes old new (Err send.Full) =
    (old.finish ≡ None) × (new ≡ old) × FoundFull old.sender

-- ---- recv

-- these slips were taken
abbrev pub with_slips : SlipTakerState → List Slip → SlipTakerState
with_slips t ss = record t { taken = t.taken ++ ss }

-- slips that answer none of so many records sent
abbrev pub AreNoAnswers : ℕ → List Slip → Type 0
AreNoAnswers sent ss = IsTrue (list_all (λ s. not (is_answer sent s)) ss)

-- The next slip that answers one of so many records sent, after some that don't.
pub record IsNextAnswer (sent : ℕ) (old new : SlipTakerState) (slip : Slip) (response : Response)
    : Type 0 where
  pub thrown : List Slip
  pub no_answers : AreNoAnswers sent thrown
  pub answer : IsTrue (is_answer sent slip)
  pub read : response_of slip.bytes ≡ Some response
  pub taken : new ≡ with_slips old (thrown ++ slip ∷ [])

-- Slips that answer none of so many records sent were taken, and thrown away.
pub record HasThrown (sent : ℕ) (old new : SlipTakerState) : Type 0 where
  pub thrown : List Slip
  pub no_answers : AreNoAnswers sent thrown
  pub taken : new ≡ with_slips old thrown

-- There was none among those taken, and then nothing was found in the ring.
pub record IsNoAnswer (sent : ℕ) (old new : SlipTakerState) : Type 0 where
  pub before : HasThrown sent old new
  pub empty : answers.FoundNoSlip new

abbrev pub HasFoundAnswer : ℕ → SlipTakerState → SlipTakerState → Option (Slip × Response) → Type 0
HasFoundAnswer sent old new (Some found) = IsNextAnswer sent old new found.0 found.1
HasFoundAnswer sent old new None = IsNoAnswer sent old new

-- An answer was received, and the fronts of its slip are known.
pub record IsReceived (old new : ClientState) (response : Response) : Type 0 where
  pub slip : Slip
  pub next : IsNextAnswer (length (sent old.log)) old.taker new.taker slip response
  pub left : new
      ≡ record old {
        log = old.log ++ Received slip.bytes ∷ [];
        fronts = greater old.fronts (slip_fronts slip);
        taker = new.taker;
      }

pub record IsNotReceived (old new : ClientState) : Type 0 where
  pub none : IsNoAnswer (length (sent old.log)) old.taker new.taker
  pub left : new ≡ record old { taker = new.taker }

abbrev pub IsRecvAnswer : ClientState → ClientState → Option Response → Type 0
IsRecvAnswer old new (Some response) = (is_aborted old.finish ≡ false) × IsReceived old new response
IsRecvAnswer old new None =
    ((is_aborted old.finish ≡ true) × (new ≡ old))
    ⊎ ((is_aborted old.finish ≡ false) × IsNotReceived old new)

-- ---- the intake

-- The client's seat entered the intake's book, found the history es, and left it with these
-- entries.
pub record IsTurn (old new : IntakeSeat) (es own : List IntakeEntry) : Type 0 where
  pub seat : IsSameSeat old new × IsOutside new
  pub later : Continues maker_of (number old) (seen_by old) es
  pub left : seen_by new ≡ es ++ own

-- The client turned the session; an abort was logged.
pub record IsFinished (how : Finish) (old new : ClientState) : Type 0 where
  pub found : List IntakeEntry
  pub turn : IsTurn old.intake_seat new.intake_seat found
      (Turned old.plan.hands (phase_for how) ∷ [])
  pub left : new
      ≡ record old {
        log = old.log ++ ends_logged (Some how) false;
        finish = Some how;
        intake_seat = new.intake_seat;
      }

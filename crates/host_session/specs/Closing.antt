-- What an attempt to close a session finds and leaves.
use Rattle.std.specs.Prelude.{◌≡◌, ◌⊎◌, ℕ, ◌+◌, ◌<◌, max, Bool, true, false, not, ◌||◌, nat_lt}
use Rattle.std.specs.Prelude.{MatchBool, IsTrue, List, [], ◌∷◌, ◌++◌, length, map, Option, Some}
use Rattle.std.specs.Prelude.{None, MatchOption}
use Rattle.std.specs.List.{list_all, sum_by}
use Rattle.atomic_table.specs.Seated.{TableId}
use Rattle.host_frames.specs.declared.seat.PoolSeat.{PoolSeat}
use Rattle.host_frames.specs.Seats.{claims, given_back, granted, seat_pool}
use Rattle.host_intake.specs.declared.entry.IntakeEntry.{IntakeEntry}
use Rattle.host_intake.specs.declared.entry.IntakeEntry.TheVariants.{Turned}
use Rattle.host_intake.specs.declared.entry.Phase.{Phase}
use Rattle.host_intake.specs.declared.entry.Phase.TheVariants as phase
use Rattle.host_intake.specs.State.{IntakeState, MemorySeat}
use Rattle.host_intake.specs.Entries.{takings}
use Rattle.host_intake.specs.Told.{flights_in, kept_slips, memory_front_in, turns}
use Rattle.host_memory.specs.Held.{first_held, page_count_of}
use Rattle.host_memory.specs.Numbers.{is_numbered}
use Rattle.host_memory.specs.Pins.{pins_left}
use Rattle.host_memory.specs.State.{MemoryState, events, history}
use Rattle.host_model.specs.declared.event.Event.{Event}
use Rattle.host_model.specs.declared.event.Event.TheVariants.{Drained}
use Rattle.host_model.specs.declared.memory.MemEntry.{MemEntry}
use Rattle.host_model.specs.declared.memory.MemEvent.TheVariants.{Release}
use Rattle.host_record.specs.declared.finish.Finish.{Finish}
use Rattle.host_record.specs.declared.finish.Finish.TheVariants.{Drain}
use Rattle.host_log.specs.History.{Continues}
use Rattle.host_turn.specs.Seats.{IsOutside, IsSameSeat, fixed_part, number, seen_by}
use Rattle.host_session.specs.declared.finish.Attempt.{Attempt}
use Rattle.host_session.specs.Calls.{IsTurn}
use Rattle.host_session.specs.Client.{ClientState, IntakeSeat, phase_for}
use Rattle.host_session.specs.Endings.{is_undone}
use Rattle.host_session.specs.Visits.{IsVisit, entry_by}

-- these buffers are released
abbrev pub releases_by : ℕ → List ℕ → List MemEntry
releases_by client ids = map (λ v. entry_by client (Release v)) ids

-- how many pages buffers were attached with, together
abbrev pub pages_of_ids : List MemEntry → List ℕ → ℕ
pages_of_ids h ids = sum_by (λ v. page_count_of v (events h)) ids

-- the frames given back with the pool's seat are so many more
pub record HasGivenBack (n : ℕ) (old new : PoolSeat) : Type 0 where
  pub pool : seat_pool new ≡ seat_pool old
  pub claims : claims new ≡ claims old
  pub granted : granted new ≡ granted old
  pub given_back : given_back new ≡ given_back old + n

-- The buffers of these ids were released, and as many pages given back as they had.
pub record HasDropped (client : ℕ) (old new : MemoryState) (seat seat' : PoolSeat) : Type 0 where
  pub ids : List ℕ
  pub left : new ≡ record old { entries = old.entries ++ releases_by client ids }
  pub home : HasGivenBack (pages_of_ids old.entries ids) seat seat'

-- No pin was left, and all buffers that had pages were released.
pub record IsMemoryFreed (client : ℕ) (old new : MemoryState) (seat seat' : PoolSeat) : Type 0 where
  pub no_pins : length (pins_left (history old)) ≡ 0
  pub none_left : first_held (history new) ≡ None
  pub dropped : HasDropped client old new seat seat'

-- A pin was left, and nothing was released.
pub record IsPinned (old new : MemoryState) (seat seat' : PoolSeat) : Type 0 where
  pub pin : 0 < length (pins_left (history old))
  pub same : new ≡ old
  pub pool : seat' ≡ seat

-- The buffers were entered past that front and found without a pin. All that had pages were
-- released, one by one, and the pages were given back with the pool's seat.
pub record HasReleasedIds (client front : ℕ) (old new : MemorySeat) (seat seat' : PoolSeat)
    : Type 0 where
  pub found : List MemEntry
  pub numbered : IsTrue (list_all (is_numbered client (client + 1)) found)
  pub ids : List ℕ
  pub visit : IsVisit front old new found (releases_by client ids)
  pub no_pins : length (pins_left (events found)) ≡ 0
  pub none_left : first_held (events (seen_by new)) ≡ None
  pub home : HasGivenBack (pages_of_ids found ids) seat seat'

-- A pin was found, and nothing was released.
pub record FoundPin (client front : ℕ) (old new : MemorySeat) (seat seat' : PoolSeat) : Type 0 where
  pub found : List MemEntry
  pub numbered : IsTrue (list_all (is_numbered client (client + 1)) found)
  pub visit : IsVisit front old new found []
  pub pin : 0 < length (pins_left (events found))
  pub pool : seat' ≡ seat

abbrev pub IsReleaseAnswer : ℕ → ℕ → MemorySeat → MemorySeat → PoolSeat → PoolSeat → Attempt
    → Type 0
IsReleaseAnswer client front old new seat seat' t =
    (t.memory_front ≡ length (seen_by new))
    × MatchBool t.closed (HasReleasedIds client front old new seat seat')
    (FoundPin client front old new seat seat')

-- the client's seat at the intake's book, which was turned to these phases; the admissions have the
-- next number
pub record IsTurnedTo (client : ℕ) (phases : List Phase) (q : IntakeSeat) : Type 0 where
  pub number_is : number q ≡ client
  pub admissions : MatchOption (fixed_part q) ⊥ (λ plan. plan.admissions ≡ client + 1)
  pub turned : turns (seen_by q) ≡ phases

-- it was turned to drain or abort
abbrev pub IsEndingSession : ℕ → IntakeSeat → Type 0
IsEndingSession client q = (how : Finish) × IsTurnedTo client (phase_for how ∷ []) q

-- It was turned to this phase.
pub record HasTurned (client : ℕ) (to : Phase) (old new : IntakeSeat) : Type 0 where
  pub found : List IntakeEntry
  pub turn : IsTurn old new found (Turned client to ∷ [])
  pub only : turns (seen_by new) ≡ to ∷ []

-- the client's seat at the buffers' book and the seat at the pool are of one pool
pub record AreOfPool (client : ℕ) (q : MemorySeat) (seat : PoolSeat) (pool : TableId × ℕ)
    : Type 0 where
  pub number_is : number q ≡ client
  pub plan_is : MatchOption (fixed_part q) ⊥
      (λ plan. (plan.pool ≡ pool) × (plan.limits.hands ≡ client))
  pub seat_is : seat_pool seat ≡ pool

-- ---- an attempt to close

-- what keeps a session from being closed, where so many records have to be taken
abbrev pub is_unfinished : ℕ → List IntakeEntry → List MemEntry → Bool
is_unfinished wanted es h =
    nat_lt 0 (flights_in es) || nat_lt 0 (length (kept_slips es))
    || nat_lt 0 (length (pins_left (events h))) || nat_lt (length (takings es)) wanted

-- so many records were taken, and nothing is in flight or kept
abbrev pub is_landed : ℕ → List IntakeEntry → Bool
is_landed wanted es =
    not (nat_lt 0 (flights_in es) || nat_lt 0 (length (kept_slips es))
    || nat_lt (length (takings es)) wanted)

-- What was done within one turn of the intake: nothing was left to do, the buffers were released,
-- and it was shut.
pub record IsClosedInTurn (client wanted front : ℕ) (s s' : IntakeState) (m m' : MemorySeat)
    (p p' : PoolSeat) (known : ℕ) : Type 0 where
  pub left : s' ≡ record s { entries = s.entries ++ Turned client phase.Closed ∷ [] }
  pub released : HasReleasedIds client (max front (memory_front_in s.entries)) m m' p p'
  pub done : is_unfinished wanted s.entries released.found ≡ false
  pub known_is : known ≡ length (seen_by m')

-- Something was left to do. The front that is told is the greater of that known before and what the
-- seat has seen.
pub record IsOpenInTurn (client wanted front : ℕ) (s s' : IntakeState) (m m' : MemorySeat)
    (p p' : PoolSeat) (known : ℕ) : Type 0 where
  pub left : s' ≡ s
  pub same : IsSameSeat m m' × IsOutside m'
  pub later : Continues (λ e. e.hand) (number m) (seen_by m) (seen_by m')
  pub numbered : (seen_by m' ≡ seen_by m)
      ⊎ IsTrue (list_all (is_numbered client (client + 1)) (seen_by m'))
  pub unfinished : is_unfinished wanted s.entries (seen_by m') ≡ true
  pub known_is : known ≡ max front (length (seen_by m'))
  pub pool : p' ≡ p

abbrev pub IsAttemptInTurn : ℕ → ℕ → ℕ → IntakeState → IntakeState → MemorySeat → MemorySeat
    → PoolSeat → PoolSeat → Attempt → Type 0
IsAttemptInTurn client wanted front s s' m m' p p' t =
    MatchBool t.closed (IsClosedInTurn client wanted front s s' m m' p p' t.memory_front)
    (IsOpenInTurn client wanted front s s' m m' p p' t.memory_front)

-- Nothing is left to do: the buffers were released past what any verdict was judged on, and the
-- intake was shut.
pub record HasClosedSession (client wanted front : ℕ) (i i' : IntakeSeat) (m m' : MemorySeat)
    (p p' : PoolSeat) (known : ℕ) : Type 0 where
  pub intake_found : List IntakeEntry
  pub turn : IsTurn i i' intake_found (Turned client phase.Closed ∷ [])
  pub turned : turns (seen_by i') ≡ turns (seen_by i) ++ phase.Closed ∷ []
  pub released : HasReleasedIds client (max front (memory_front_in intake_found)) m m' p p'
  pub done : is_unfinished wanted intake_found released.found ≡ false
  pub known_is : known ≡ length (seen_by m')

-- Something is left to do in what was found. Nothing was released or shut.
pub record HasNotClosed (client wanted front : ℕ) (i i' : IntakeSeat) (m m' : MemorySeat)
    (p p' : PoolSeat) (known : ℕ) : Type 0 where
  pub intake_found : List IntakeEntry
  pub turn : IsTurn i i' intake_found []
  pub turned : turns (seen_by i') ≡ turns (seen_by i)
  pub same : IsSameSeat m m' × IsOutside m'
  pub later : Continues (λ e. e.hand) (number m) (seen_by m) (seen_by m')
  pub numbered : (seen_by m' ≡ seen_by m)
      ⊎ IsTrue (list_all (is_numbered client (client + 1)) (seen_by m'))
  pub unfinished : is_unfinished wanted intake_found (seen_by m') ≡ true
  pub known_is : known ≡ max front (length (seen_by m'))
  pub pool : p' ≡ p

abbrev pub IsAttempt : ℕ → ℕ → ℕ → IntakeSeat → IntakeSeat → MemorySeat → MemorySeat → PoolSeat
    → PoolSeat → Attempt → Type 0
IsAttempt client wanted front i i' m m' p p' t =
    MatchBool t.closed (HasClosedSession client wanted front i i' m m' p p' t.memory_front)
    (HasNotClosed client wanted front i i' m m' p p' t.memory_front)

-- the event that is logged then
abbrev pub closing_event : Option Finish → List Event
closing_event (Some Drain) = Drained ∷ []
closing_event _ = []

-- The session was closed in this call: nothing was undone, the pages went home, and the client
-- turned it.
pub record IsClosing (old new : ClientState) (seat seat' : PoolSeat) : Type 0 where
  pub intake_found : List IntakeEntry
  pub turn : IsTurn old.intake_seat new.intake_seat intake_found
      (Turned old.plan.hands phase.Closed ∷ [])
  pub released : HasReleasedIds old.plan.hands
      (max old.fronts.memory (memory_front_in intake_found)) old.memory_seat new.memory_seat seat
      seat'
  pub done : is_undone old.finish old.log intake_found released.found ≡ false
  pub left : new ≡ record old {
    log = old.log ++ closing_event old.finish;
    closed = true;
    fronts = record { device = old.fronts.device; memory = length (seen_by new.memory_seat) };
    intake_seat = new.intake_seat;
    memory_seat = new.memory_seat;
  }

-- It is still open: something was undone in what the seats have seen. Nothing was released. The
-- buffers' history is known to be as long as it was known to be before, or as its seat has seen it,
-- and no longer.
pub record IsStillOpen (old new : ClientState) (seat seat' : PoolSeat) : Type 0 where
  pub intake_found : List IntakeEntry
  pub turn : IsTurn old.intake_seat new.intake_seat intake_found []
  pub same : IsSameSeat old.memory_seat new.memory_seat × IsOutside new.memory_seat
  pub later : Continues (λ e. e.hand) (number old.memory_seat) (seen_by old.memory_seat)
      (seen_by new.memory_seat)
  pub undone : is_undone old.finish old.log intake_found (seen_by new.memory_seat) ≡ true
  pub left : new ≡ record old {
    fronts = record {
      device = old.fronts.device;
      memory = max old.fronts.memory (length (seen_by new.memory_seat));
    };
    intake_seat = new.intake_seat;
    memory_seat = new.memory_seat;
  }
  pub pool : seat' ≡ seat

-- Is the session closed now? Once it is, nothing changes any more.
abbrev pub IsCloseAnswer : ClientState → ClientState → PoolSeat → PoolSeat → Bool → Type 0
IsCloseAnswer old new seat seat' true =
    ((old.closed ≡ true) × (new ≡ old) × (seat' ≡ seat))
    ⊎ ((old.closed ≡ false) × IsClosing old new seat seat')
IsCloseAnswer old new seat seat' false = (old.closed ≡ false) × IsStillOpen old new seat seat'

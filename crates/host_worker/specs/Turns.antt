-- What a turn of a hand tells.
use Rattle.std.specs.Prelude.{◌≡◌, ◌⊎◌, ℕ, ◌+◌, ◌≤◌, ◌<◌, Bool, true, false, slice_get, slice_set}
use Rattle.std.specs.Prelude.{sum_by, Option, Some, MatchOption}
use Rattle.std.specs.Option.{ForSome}
use Rattle.host_hand.specs.Visits.{begun_by, done_at, is_closed_visit, CannotTake, IsNoteAt}
use Rattle.host_hand.specs.Visits.{IsVisitTold}
use Rattle.host_hand.specs.declared.visit.Visit.{Visit}
use Rattle.host_hand.specs.declared.visit.Visit.TheVariants as visit
use Rattle.host_intake.specs.declared.entry.Phase.TheVariants.{Closed}
use Rattle.host_intake.specs.Told.{phase_in}
use Rattle.host_io.specs.declared.disk.Disk as disk
use Rattle.host_rings.specs.RequestEnds.{NoteState}
use Rattle.host_session.specs.declared.hand.SessionHand.{SessionHand}
use Rattle.host_turn.specs.Seats.{seen_by}
use Rattle.host_worker.specs.declared.hand.Hand.{Hand}
use Rattle.host_worker.specs.declared.turned.Turn.{Turn}
use Rattle.host_worker.specs.declared.turned.Turn.TheVariants.{Did, Idle, AllClosed}

-- the session is closed, as the hand has seen it
abbrev pub IsClosed : SessionHand → Type 0
IsClosed h = phase_in (seen_by h.intake) ≡ Closed

-- it is closed, or no record could be taken there, by one that wasn't told what was sent
abbrev pub IsHandQuiet : SessionHand → Type 0
IsHandQuiet h = IsClosed h ⊎ CannotTake 0 (seen_by h.intake)

-- hand n has begun one thing at the session
abbrev pub HasBegunOne : ℕ → SessionHand → SessionHand → Type 0
HasBegunOne n old new = begun_by n (seen_by new.intake) ≡ begun_by n (seen_by old.intake) + 1

abbrev pub is_did : Visit → Bool
is_did visit.Did = true
is_did _ = false

abbrev pub has_done : Turn → Bool
has_done Did = true
has_done _ = false

-- how many things a turn did
abbrev pub things_in : Turn → ℕ
things_in Did = 1
things_in _ = 0

-- what was found, with a visit more that did nothing
abbrev pub found_after : Turn → Visit → Turn
found_after found visit.Idle = Idle
found_after found _ = found

-- what two rounds found together
abbrev pub joined_turns : Turn → Turn → Turn
joined_turns AllClosed second = second
joined_turns Idle Did = Did
joined_turns Idle _ = Idle
joined_turns Did second = Did

module _ {D : Type 0} {g : disk.Ghosts D} where
  -- this holds of what the hand has of each session at a place from one on and below the other
  abbrev pub EachOf : ℕ → ℕ → (SessionHand → Type 0) → Hand D g → Type 0
  EachOf from to P hand =
      (k : ℕ) (h : SessionHand) → from ≤ k → k < to → slice_get hand.sessions.items k ≡ Some h → P h

  -- some session in between isn't closed, as the hand has seen it
  pub record SomeOpen (from to : ℕ) (hand : Hand D g) : Type 0 where
    pub place : ℕ
    pub within : (from ≤ place) × (place < to)
    pub session : SessionHand
    pub stands : slice_get hand.sessions.items place ≡ Some session
    pub not_closed : IsClosed session → ⊥

  -- the hand has begun one thing at a session in between
  pub record HasBegun (from to : ℕ) (old new : Hand D g) : Type 0 where
    pub place : ℕ
    pub within : (from ≤ place) × (place < to)
    pub before : SessionHand
    pub after : SessionHand
    pub stood : slice_get old.sessions.items place ≡ Some before
    pub stands : slice_get new.sessions.items place ≡ Some after
    pub begun : HasBegunOne old.number before after

  -- What a hand found at the sessions in between.
  abbrev pub IsRound : ℕ → ℕ → Hand D g → Hand D g → Turn → Type 0
  IsRound from to old new Did = HasBegun from to old new × SomeOpen from to new
  IsRound from to old new Idle = EachOf from to IsHandQuiet new × SomeOpen from to new
  IsRound from to old new AllClosed = EachOf from to IsClosed new

  -- the same, of a round that has done nothing yet
  abbrev pub IsFound : ℕ → ℕ → Hand D g → Turn → Type 0
  IsFound from to hand Did = ⊥
  IsFound from to hand Idle = EachOf from to IsHandQuiet hand × SomeOpen from to hand
  IsFound from to hand AllClosed = EachOf from to IsClosed hand

  -- what it has of the other sessions is as it was
  abbrev pub AreOthersSame : ℕ → ℕ → Hand D g → Hand D g → Type 0
  AreOthersSame from to old new =
      (k : ℕ) → (k < from) ⊎ (to ≤ k)
      → slice_get new.sessions.items k ≡ slice_get old.sessions.items k

  -- how much the hand has begun at all its sessions together
  abbrev pub begun_in : Hand D g → ℕ
  begun_in hand = sum_by (λ h. begun_by hand.number (seen_by h.intake)) hand.sessions.items

  -- the note is of what was sent to session k
  abbrev pub IsNoteFor : ℕ → Hand D g → Option NoteState → Type 0
  IsNoteFor k hand note = ForSome (slice_get hand.sessions.items k) (λ h. IsNoteAt h.intake note)

  -- Where a turn did nothing, no record could be taken at session k, of as many as were sent there.
  abbrev pub IsOwnTold : ℕ → ℕ → Hand D g → Turn → Type 0
  IsOwnTold k sent hand turn =
      has_done turn ≡ false
      → MatchOption (slice_get hand.sessions.items k) ⊥ (λ h. CannotTake sent (seen_by h.intake))

  -- The hand visited session k, where it was told so, and brought a note of so many records that
  -- were sent.
  pub record HasVisited (k sent : ℕ) (old new : Hand D g) (answer : Visit) : Type 0 where
    pub before : SessionHand
    pub after : SessionHand
    pub stood : slice_get old.sessions.items k ≡ Some before
    pub sessions_are : new.sessions.items ≡ slice_set old.sessions.items k after
    pub begun : begun_by old.number (seen_by after.intake)
        ≡ begun_by old.number (seen_by before.intake) + done_at answer
    pub told : IsVisitTold sent answer (seen_by after.intake)
    pub open_still : is_closed_visit answer ≡ false → IsClosed after → ⊥

-- What a hand finds to do at a session.
use Rattle.std.specs.Prelude.{◌≡◌, ℕ, ◌<◌, ◌≤◌, Bool, true, false, List, length, Option, Some, None}
use Rattle.std.specs.Prelude.{MatchOption}
use Rattle.std.specs.Option.{ForSome}
use mathlib.Core.List.{IsPrefix}
use Rattle.host_intake.specs.declared.entry.IntakeEntry.{IntakeEntry}
use Rattle.host_intake.specs.declared.entry.IntakeEntry.TheVariants.{Took, Passed}
use Rattle.host_intake.specs.declared.entry.Phase.TheVariants.{Closed}
use Rattle.host_intake.specs.Admissions.{IsGroupInFlight, load_in}
use Rattle.host_intake.specs.Entries.{maker_of, takings}
use Rattle.host_intake.specs.Told.{is_over, phase_in}
use Rattle.host_model.specs.Lists.{count}
use Rattle.host_rings.specs.RequestEnds.{NoteState}
use Rattle.host_log.specs.History.{entries_of}
use Rattle.host_turn.specs.Seats.{fixed_part, seen_by}
use Rattle.host_session.specs.Client.{IntakeSeat}
use Rattle.host_session.specs.declared.hand.SessionHand.{SessionHand}
use Rattle.host_hand.specs.declared.visit.Visit.{Visit}
use Rattle.host_hand.specs.declared.visit.Visit.TheVariants as visit

-- whether an entry begins something: a record was taken, or a kept answer handed on
abbrev pub is_begun : IntakeEntry → Bool
is_begun (Took hand envelope verdict waits seen) = true
is_begun (Passed hand) = true
is_begun _ = false

-- how much hand n has begun
abbrev pub begun_by : ℕ → List IntakeEntry → ℕ
begun_by n es = count is_begun (entries_of maker_of n es)

-- one thing at a visit that did something, and none at any other
abbrev pub done_at : Visit → ℕ
done_at visit.Did = 1
done_at _ = 0

abbrev pub is_closed_visit : Visit → Bool
is_closed_visit visit.Closed = true
is_closed_visit _ = false

-- how many records a note tells to be sent; without one a hand is told of none
abbrev pub count_told : Option NoteState → ℕ
count_told None = 0
count_told (Some note) = length note.pushed

-- the note is of the requests of the intake at which this seat is
abbrev pub IsNoteAt : IntakeSeat → Option NoteState → Type 0
IsNoteAt seat note =
    MatchOption note (Unit {0}) (λ n. ForSome (fixed_part seat) (λ plan. n.ring ≡ plan.ring))

-- the session isn't over, and fewer records are in flight and answers kept than may be
abbrev pub MayTake : List IntakeEntry → Type 0
MayTake es = (is_over (phase_in es) ≡ false) × (load_in es < 64)

-- No record can be taken: the session is over; as many records are in flight and answers kept as
-- may be; each of those was taken that the hand was told to be sent; or the next one is a member of
-- a group of whose number a closed instance hasn't ended.
pub data CannotTake (told : ℕ) (es : List IntakeEntry) : Type 0 where
  finished : is_over (phase_in es) ≡ true → CannotTake told es
  at_limit : is_over (phase_in es) ≡ false → load_in es ≡ 64 → CannotTake told es
  all_taken : MayTake es → told ≤ length (takings es) → CannotTake told es
  stalled : MayTake es → (g : ℕ) → IsGroupInFlight es g → CannotTake told es

-- what a visit tells of the intake's history, as the hand's seat has seen it at the return
abbrev pub IsVisitTold : ℕ → Visit → List IntakeEntry → Type 0
IsVisitTold told visit.Did es = Unit {0}
IsVisitTold told visit.Idle es = CannotTake told es
IsVisitTold told visit.Closed es = phase_in es ≡ Closed

-- The hand has seen more of the histories of the intake and of the buffers.
pub record HasSeenMore (old new : SessionHand) : Type 0 where
  pub intake : IsPrefix (seen_by old.intake) (seen_by new.intake)
  pub buffers : IsPrefix (seen_by old.memory) (seen_by new.memory)

-- How the records that a hand took ended, by what the hand did for them.
use Rattle.std.specs.Prelude.{◌≡◌, ◌⊎◌, ℕ, ◌+◌, ◌<◌, ◌≤◌, ◌==◌, ◌&&◌, false, true, List, filter}
use Rattle.std.specs.Prelude.{length, take, slice_get, is_some, IsTrue, Some, MatchOption}
use Rattle.host_block.specs.declared.range.Range.{Range}
use Rattle.host_model.specs.declared.memory.MemEntry.{MemEntry}
use Rattle.host_model.specs.declared.memory.MemEvent.TheVariants.{Release}
use Rattle.host_model.specs.declared.step.Step.{Step}
use Rattle.host_model.specs.declared.verdict.Verdict.TheVariants.{Accepted}
use Rattle.host_record.specs.declared.status.Status.TheVariants as status
use Rattle.host_model.specs.Carrying.{Ask, asked, carries_out, outcome_of}
use Rattle.host_model.specs.RecordEntries.{index_of}
use Rattle.host_memory.specs.Held.{closer_of}
use Rattle.host_memory.specs.State.{events}
use Rattle.host_log.specs.History.{entries_of}
use Rattle.host_intake.specs.declared.entry.IntakeEntry.{IntakeEntry}
use Rattle.host_intake.specs.Entries.{Taking, Landing, takings, request_in}
use Rattle.host_intake.specs.Takings.{made}
use Rattle.host_log.specs.Growth.{EachOwn, IsReached}
use Rattle.host_session.specs.Moves.{moves_for, moves_owed}

-- ---- what a hand did for one record

-- the steps that it made for record i of session s
abbrev pub steps_for : ℕ → ℕ → ℕ → List Step → List Step
steps_for n s i steps =
    filter (λ step. step.session == s && step.index == i) (entries_of (λ step. step.hand) n steps)

-- the steps that a record asks for
abbrev pub asks_in : Range → Taking → List Ask
asks_in part t = asked t.verdict part (request_in t)

-- ---- which records

-- record i was taken so, by hand n, and is to be carried out
pub record IsTakenBy (es : List IntakeEntry) (n i : ℕ) (t : Taking) : Type 0 where
  pub stands : slice_get (takings es) i ≡ Some t
  pub by : t.hand ≡ n
  pub accepted : t.verdict ≡ Accepted
  pub waits : t.waits ≡ false

-- a step of a record that the hand took, at a place not below the device front of that record's
-- envelope
abbrev pub IsStepTaken : List IntakeEntry → ℕ → ℕ → Step → Type 0
IsStepTaken es n p step = (t : Taking) × IsTakenBy es n step.index t × (t.envelope.device_front ≤ p)

-- The place p is not below the memory front of the record's envelope, and behind what taking the
-- record left.
pub record IsPastTaking (p : ℕ) (t : Taking) : Type 0 where
  pub front : t.envelope.memory_front ≤ p
  pub taking : t.seen + length (made t) ≤ p

-- an entry that was made for a record that the hand took, at such a place
abbrev pub IsMoveTaken : List IntakeEntry → ℕ → ℕ → MemEntry → Type 0
IsMoveTaken es n p e =
    MatchOption (index_of e.what) (Unit {0})
    (λ i. (t : Taking) × IsTakenBy es n i t × IsPastTaking p t)

-- a buffer that was released had been closed by a record
abbrev pub IsClosedBefore : List MemEntry → ℕ → MemEntry → Type 0
IsClosedBefore h p e =
    (v : ℕ) → e.what ≡ Release v → is_some (closer_of v (events (take p h))) ≡ true

-- ---- how they ended

-- The record that landed was taken so by hand n, and didn't wait. It was carried out by the hand's
-- steps, with their outcome; what the hand did to its buffer is what these steps ask for; and the
-- fronts are past all of it, and past what taking the record left. The histories that the hand has
-- seen reach them.
pub record HasEnded (part : Range) (s n : ℕ) (es : List IntakeEntry) (h : List MemEntry)
    (steps : List Step) (l : Landing) (t : Taking) : Type 0 where
  pub stands : slice_get (takings es) l.index ≡ Some t
  pub by : t.hand ≡ n
  pub waits : t.waits ≡ false
  pub carried : IsTrue (carries_out (asks_in part t) (steps_for n s l.index steps))
  pub outcome : l.end.outcome ≡ outcome_of t.verdict (asks_in part t) (steps_for n s l.index steps)
  pub moved : moves_for n l.index h
      ≡ moves_owed t.verdict l.end.outcome l.index (request_in t) (steps_for n s l.index steps)
      (moves_for n l.index h)
  pub device_front : EachOwn (λ step. step.hand) n
      (λ p step. step.session ≡ s → step.index ≡ l.index → p < l.end.device_front) steps
  pub memory_front : EachOwn (λ e. e.hand) n
      (λ p e. index_of e.what ≡ Some l.index → p < l.end.memory_front) h
  pub taking_front : (k : ℕ) → k < length (made t) → t.seen + k < l.end.memory_front
  pub device_reached : IsReached l.end.device_front steps
  pub memory_reached : IsReached l.end.memory_front h

-- Hand n released buffer v below the front, and record i had closed it before.
pub record HasReleasedBuffer (n i v front : ℕ) (h : List MemEntry) : Type 0 where
  pub place : ℕ
  pub released : slice_get h place ≡ Some (record { hand = n; what = Release v })
  pub below : place < front
  pub closed : closer_of v (events (take place h)) ≡ Some i

-- The record that landed is a close that waited, and the last pin of its buffer was let go of by
-- this hand. It is past nothing at the device; the buffers' history that the hand has seen reaches
-- its front.
pub record HasClosedBuffer (n : ℕ) (es : List IntakeEntry) (h : List MemEntry) (l : Landing)
    : Type 0 where
  pub waits : MatchOption (slice_get (takings es) l.index) ⊥ (λ t. t.waits ≡ true)
  pub outcome : l.end.outcome ≡ status.Ok
  pub buffer : ℕ
  pub released : HasReleasedBuffer n l.index buffer l.end.memory_front h
  pub device_front : l.end.device_front ≡ 0
  pub memory_reached : IsReached l.end.memory_front h

-- how a record ended whose end hand n told
abbrev pub IsEndingRecord : Range → ℕ → ℕ → List IntakeEntry → List MemEntry → List Step → Landing
    → Type 0
IsEndingRecord part s n es h steps l =
    ((t : Taking) × HasEnded part s n es h steps l t) ⊎ HasClosedBuffer n es h l

-- What a hand takes from a session, under a turn of its intake.
use Rattle.std.specs.Prelude.{◌≡◌, ℕ, ◌≤◌, if◌then◌else◌, false, true, List, [], ◌∷◌, ◌++◌, length}
use Rattle.std.specs.Prelude.{slice_get, Some}
use Rattle.std.specs.List.{list_any}
use Rattle.atomic_table.specs.Seated.{TableId}
use Rattle.host_block.specs.declared.range.Range.{Range}
use Rattle.host_intake.specs.declared.entry.IntakeEntry.{IntakeEntry}
use Rattle.host_intake.specs.declared.entry.IntakeEntry.TheVariants.{Passed}
use Rattle.host_intake.specs.Admissions.{taking_entry}
use Rattle.host_intake.specs.Entries.{Taking, takings, place_of}
use Rattle.host_intake.specs.Ledgers.{is_shut}
use Rattle.host_intake.specs.Rights.{HasRight}
use Rattle.host_intake.specs.Takings.{IsJudged}
use Rattle.host_intake.specs.Told.{kept_slips, phase_in}
use Rattle.host_memory.specs.Pins.{is_done_for}
use Rattle.host_memory.specs.State.{events}
use Rattle.host_model.specs.declared.memory.MemEntry.{MemEntry}
use Rattle.host_model.specs.declared.step.Step.{Step}
use Rattle.host_rings.specs.declared.slip.Slip.{Slip}
use Rattle.host_rings.specs.AnswerEnds.{SlipSenderState}
use Rattle.host_log.specs.History.{entries_of}
use Rattle.host_session.specs.declared.spec.SessionSpec.{SessionSpec}
use Rattle.host_hand.specs.declared.job.Job.{Job}
use Rattle.host_hand.specs.declared.next.Next.{Next}
use Rattle.host_hand.specs.declared.next.Next.TheVariants as next
use Rattle.host_hand.specs.Ends.{sender_with_slips}
use Rattle.host_hand.specs.Errands.{errand_of}
use Rattle.host_hand.specs.Frames.{is_closer, pages_named}
use Rattle.host_hand.specs.Kept.{IsAtSession}
use Rattle.host_hand.specs.Visits.{CannotTake}
use Rattle.host_hand.specs.Works.{IsWork, pages_with, work_verdict}

-- the hand has let go of no buffer for a record that is still to be taken
abbrev pub HasDoneBelow : ℕ → ℕ → List MemEntry → Type 0
HasDoneBelow n count h =
    (i : ℕ) → count ≤ i → list_any (is_done_for i) (events (entries_of (λ e. e.hand) n h)) ≡ false

-- The oldest answer that was kept was pushed, and left the intake.
pub record HasPassed (n : ℕ) (old new : List IntakeEntry) (old_sender new_sender : SlipSenderState)
    : Type 0 where
  pub slip : Slip
  pub oldest : slice_get (kept_slips old) 0 ≡ Some slip
  pub entries : new ≡ old ++ Passed n ∷ []
  pub sender : new_sender ≡ sender_with_slips old_sender (slip ∷ [])

-- The next record was taken so by hand n, which has seen the buffer history on which it was judged.
pub record HasTakenNext (n : ℕ) (part : Range) (old new : List IntakeEntry) (h : List MemEntry)
    (t : Taking) : Type 0 where
  pub by : t.hand ≡ n
  pub index : place_of t ≡ length (takings old)
  pub entries : new ≡ old ++ taking_entry t ∷ []
  pub admissions : ℕ
  pub judged : IsJudged part admissions h t

-- The record that was taken is this job, and doesn't wait: its verdict is that of the work, its
-- right is with it, and so are the pages of a buffer that it closed.
pub record IsJobOf (cells : TableId) (spec : SessionSpec) (pool : TableId × ℕ)
    (es : List IntakeEntry) (h : List MemEntry) (t : Taking) (job : Job) : Type 0 where
  pub envelope : t.envelope ≡ job.envelope
  pub verdict : t.verdict ≡ work_verdict job.work
  pub waits : t.waits ≡ false
  pub right : HasRight cells (takings es) t job.right
  pub work_is : IsWork (errand_of t.hand spec t.envelope) pool h job.work
  pub pages : pages_with job.work ≡ (if is_closer t then pages_named h t else 0)

-- what a look at the session found, by a hand that was told how many records had been sent, over
-- what the hand's seats have seen before it and after it
abbrev pub IsNext : TableId → SessionSpec → TableId × ℕ → ℕ → ℕ → List IntakeEntry
    → List IntakeEntry → List MemEntry → SlipSenderState → SlipSenderState → Next → Type 0
IsNext cells spec pool told n old new h old_sender new_sender next.Passed =
    HasPassed n old new old_sender new_sender × (is_shut (phase_in new) ≡ false)
IsNext cells spec pool told n old new h old_sender new_sender next.Waits =
    (new_sender ≡ old_sender) × (is_shut (phase_in new) ≡ false)
    × ((t : Taking) × HasTakenNext n spec.part old new h t × (t.waits ≡ true))
IsNext cells spec pool told n old new h old_sender new_sender next.Idle =
    (new_sender ≡ old_sender) × (new ≡ old) × (is_shut (phase_in new) ≡ false) × CannotTake told new
IsNext cells spec pool told n old new h old_sender new_sender next.Closed =
    (new_sender ≡ old_sender) × (new ≡ old) × (is_shut (phase_in new) ≡ true)
IsNext cells spec pool told n old new h old_sender new_sender (next.Took job) =
    (new_sender ≡ old_sender)
    × ((t : Taking) × HasTakenNext n spec.part old new h t × IsJobOf cells spec pool new h t job)

-- The hand has taken this job, and before that kept the session.
pub record HasJob (cells : TableId) (spec : SessionSpec) (pool : TableId × ℕ) (n : ℕ)
    (es : List IntakeEntry) (h : List MemEntry) (steps : List Step) (slips : List Slip) (job : Job)
    : Type 0 where
  pub before : List IntakeEntry
  pub taking : Taking
  pub kept : IsAtSession spec n before h steps slips
  pub taken : HasTakenNext n spec.part before es h taking
  pub job_is : IsJobOf cells spec pool es h taking job

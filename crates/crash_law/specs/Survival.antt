-- What a crash can't take: each step of a write or trim that was answered before a flush was sent,
-- once that flush is done.
use Rattle.std.specs.Prelude.{◌≡◌, ℕ, ◌≤◌, true, List, length, slice_get, take, Some}
use Rattle.host_block.specs.Changes.{changes_block, is_barrier, put_by}
use Rattle.host_block.specs.Crash.{IsCrashImage}
use Rattle.host_block.specs.Disk.{block_at}
use Rattle.host_model.specs.declared.step.Step.{Step}
use Rattle.host_model.specs.Changes.{change_of, changes_of}
use Rattle.host_model.specs.Log.{sending}
use Rattle.host_model.specs.Order.{HadBefore}
use Rattle.host_report.specs.declared.report.Report.{Report}
use Rattle.host_report.specs.declared.session.SessionReport.{SessionReport}
use Rattle.host_report.specs.Lawful.{IsLawful, session_of}

-- ---- steps

-- The step at this place wrote or trimmed block b for record i of a session, and didn't fail.
pub record WroteBlock (steps : List Step) (session i b place : ℕ) : Type 0 where
  pub step : Step
  pub stands : slice_get steps place ≡ Some step
  pub names : (step.session ≡ session) × (step.index ≡ i)
  pub writes : changes_block (change_of step) b ≡ true

-- Among these steps is the flush that record i of a session asked for, and it didn't fail.
pub record WasFlushed (steps : List Step) (session i : ℕ) : Type 0 where
  pub place : ℕ
  pub step : Step
  pub stands : slice_get steps place ≡ Some step
  pub names : (step.session ≡ session) × (step.index ≡ i)
  pub flushes : is_barrier (change_of step) ≡ true

-- These are the bytes that a step on block b put there which is not before this place.
pub record WerePutSince (steps : List Step) (size b place : ℕ) (bytes : List ℕ) : Type 0 where
  pub later : ℕ
  pub step : Step
  pub stands : slice_get steps later ≡ Some step
  pub since : place ≤ later
  pub writes : changes_block (change_of step) b ≡ true
  pub are : bytes ≡ put_by size step.op step.bytes

-- ---- what has survived

-- In what a crash leaves once these steps are made has survived what was flushed. Where the answer
-- to record w was had before flush f was sent, by the log of one client, and the flush is among
-- these steps, then each block that a step of w wrote or trimmed, whatever the outcome of w, has
-- the bytes of that step or those of a later one among these.
abbrev pub KeepsFlushed : List (List ℕ) → Report → List Step → List (List ℕ) → Type 0
KeepsFlushed image report made left =
    (n : ℕ) (e : SessionReport) → slice_get report.sessions.items n ≡ Some e → (w f : ℕ)
    → HadBefore (session_of report e) (sending e.log.items f) w → WasFlushed made e.number f
    → (b place : ℕ) → WroteBlock report.steps.items e.number w b place
    → WerePutSince made (length (block_at image b)) b place (block_at left b)

-- So it is at every moment: once the first so many steps of the report are made, in each image that
-- a crash may leave then.
abbrev pub KeepsAtEachMoment : List (List ℕ) → Report → Type 0
KeepsAtEachMoment image report =
    (count : ℕ) (left : List (List ℕ))
    → let made = take count report.steps.items in IsCrashImage image (changes_of made) left →
    KeepsFlushed image report made left

-- of every lawful report
abbrev pub FlushedWritesSurvive : Type 0
FlushedWritesSurvive =
    (image : List (List ℕ)) (report : Report) → IsLawful image report
    → KeepsAtEachMoment image report

-- What a crash can't take of a forced write, whose own flush comes after its blocks.
use Rattle.std.specs.Prelude.{◌≡◌, ℕ, ◌+◌, ◌<◌, IsTrue, List, length, slice_get, take, Some}
use Rattle.host_block.specs.Crash.{IsCrashImage}
use Rattle.host_block.specs.Disk.{block_at}
use Rattle.host_record.specs.declared.opcode.Opcode.TheVariants.{Write}
use Rattle.host_record.specs.Command.{is_forced}
use Rattle.host_model.specs.declared.step.Step.{Step}
use Rattle.host_model.specs.Changes.{changes_of}
use Rattle.host_model.specs.Log.{request_at, requests}
use Rattle.host_model.specs.Session.{Session}
use Rattle.host_report.specs.declared.report.Report.{Report}
use Rattle.host_report.specs.declared.session.SessionReport.{SessionReport}
use Rattle.host_report.specs.Lawful.{IsLawful, session_of}
use Rattle.crash_law.specs.Ended.{HasSurvived, HasSucceeded}
use Rattle.crash_law.specs.Survival.{WasFlushed, WerePutSince, WroteBlock}

-- ---- steps

-- Once a record's own flush is among these steps, each block that a step of it wrote has in this
-- image the bytes of that step, or those of a later one among these.
abbrev pub KeepsOwnFlushed : List (List ℕ) → Report → List Step → List (List ℕ) → Type 0
KeepsOwnFlushed image report made left =
    (n : ℕ) (e : SessionReport) → slice_get report.sessions.items n ≡ Some e → (w : ℕ)
    → WasFlushed made e.number w → (b place : ℕ) → WroteBlock report.steps.items e.number w b place
    → WerePutSince made (length (block_at image b)) b place (block_at left b)

-- So it is at every moment: once the first so many steps of the report are made, in each image that
-- a crash may leave then.
abbrev pub KeepsForcedAtEachMoment : List (List ℕ) → Report → Type 0
KeepsForcedAtEachMoment image report =
    (count : ℕ) (left : List (List ℕ))
    → let made = take count report.steps.items in IsCrashImage image (changes_of made) left →
    KeepsOwnFlushed image report made left

-- of every lawful report
abbrev pub OwnFlushesKeep : Type 0
OwnFlushesKeep =
    (image : List (List ℕ)) (report : Report) → IsLawful image report
    → KeepsForcedAtEachMoment image report

-- ---- records

-- record i is a forced write that was answered 0
pub record IsForcedWrite (s : Session) (i : ℕ) : Type 0 where
  pub done : HasSucceeded s i Write
  pub forced : IsTrue (is_forced (request_at (requests s.log) i))

-- Each block of each forced write that was answered 0 was written, and has in this image the
-- write's bytes or those of a later step.
abbrev pub KeepsForced : List (List ℕ) → Report → List (List ℕ) → Type 0
KeepsForced image report left =
    (n : ℕ) (e : SessionReport) → slice_get report.sessions.items n ≡ Some e → (w : ℕ)
    → IsForcedWrite (session_of report e) w → (k : ℕ)
    → k < (request_at (requests e.log.items) w).length
    → HasSurvived image report.steps.items e.number w
    (e.range.first + (request_at (requests e.log.items) w).dev_offset + k) left

-- in each image that a crash may leave after a lawful run
abbrev pub ForcedWritesSurvive : Type 0
ForcedWritesSurvive =
    (image : List (List ℕ)) (report : Report) (left : List (List ℕ)) → IsLawful image report
    → IsCrashImage image (changes_of report.steps.items) left → KeepsForced image report left

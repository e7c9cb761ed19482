-- What was flushed of the writes and trims that ended well, once the whole run is over.
use Rattle.std.specs.Prelude.{◌≡◌, ℕ, ◌+◌, ◌<◌, Bool, true, false, List, length, slice_get, Some}
use Rattle.host_block.specs.Disk.{block_at}
use Rattle.host_record.specs.declared.opcode.Opcode.{Opcode}
use Rattle.host_record.specs.declared.opcode.Opcode.TheVariants.{Flush, Trim, Write}
use Rattle.host_record.specs.declared.status.Status.TheVariants as status
use Rattle.host_record.specs.Command.{opcode}
use Rattle.host_model.specs.declared.step.Step.{Step}
use Rattle.host_model.specs.Log.{request_at, requests, sending}
use Rattle.host_model.specs.Order.{HadBefore}
use Rattle.host_model.specs.Session.{Session}
use Rattle.host_model.specs.Taking.{row_at}
use Rattle.host_report.specs.declared.report.Report.{Report}
use Rattle.host_report.specs.declared.session.SessionReport.{SessionReport}
use Rattle.host_report.specs.Lawful.{IsLawful, session_of}
use Rattle.crash_law.specs.Survival.{KeepsFlushed, WerePutSince, WroteBlock}

-- whether a request of this kind changes blocks
abbrev pub changes_blocks : Opcode → Bool
changes_blocks Write = true
changes_blocks Trim = true
changes_blocks _ = false

-- record i asked for this, was taken and ended well
pub record HasSucceeded (s : Session) (i : ℕ) (kind : Opcode) : Type 0 where
  pub taken : i < length s.rows
  pub asks : opcode (request_at (requests s.log) i) ≡ Some kind
  pub ended : (row_at s.rows i).outcome ≡ status.Ok

-- Block b, which record i wrote or trimmed, has after a crash the bytes of that step, or those of a
-- later write or trim.
pub record HasSurvived (image : List (List ℕ)) (steps : List Step) (session i b : ℕ)
    (after : List (List ℕ)) : Type 0 where
  pub place : ℕ
  pub wrote : WroteBlock steps session i b place
  pub left : WerePutSince steps (length (block_at image b)) b place (block_at after b)

-- Where the answer to a write or trim was had before a flush was sent, by the log of one client,
-- and both ended well, each of the blocks that it names was written and has survived in this image.
abbrev pub KeepsEnded : List (List ℕ) → Report → List (List ℕ) → Type 0
KeepsEnded image report left =
    (n : ℕ) (e : SessionReport) → slice_get report.sessions.items n ≡ Some e
    → (w f : ℕ) (kind : Opcode) → changes_blocks kind ≡ true
    → HasSucceeded (session_of report e) w kind → HasSucceeded (session_of report e) f Flush
    → HadBefore (session_of report e) (sending e.log.items f) w → (k : ℕ)
    → k < (request_at (requests e.log.items) w).length
    → HasSurvived image report.steps.items e.number w
    (e.range.first + (request_at (requests e.log.items) w).dev_offset + k) left

-- of a lawful report, where what was flushed has survived
abbrev pub EndedWritesSurvive : Type 0
EndedWritesSurvive =
    (image : List (List ℕ)) (report : Report) (left : List (List ℕ)) → IsLawful image report
    → KeepsFlushed image report report.steps.items left → KeepsEnded image report left

-- What a crash leaves of the forced writes that a hand answered 0.
use Rattle.std.specs.Prelude.{◌≡◌, ℕ, ◌+◌, ◌<◌, false, IsTrue, List, length, slice_get, Some}
use mathlib.Core.List.{IsPrefix}
use Rattle.crash_law.specs.Ended.{HasSurvived}
use Rattle.host_block.specs.Crash.{IsCrashImage}
use Rattle.host_hand.specs.Kept.{own_landings}
use Rattle.host_intake.specs.declared.entry.IntakeEntry.{IntakeEntry}
use Rattle.host_intake.specs.Entries.{Landing, Taking, request_in, takings}
use Rattle.host_io.specs.declared.disk.Disk as disk
use Rattle.host_model.specs.declared.step.Step.{Step}
use Rattle.host_model.specs.declared.verdict.Verdict.TheVariants.{Accepted}
use Rattle.host_model.specs.Changes.{changes_of}
use Rattle.host_record.specs.declared.opcode.Opcode.TheVariants.{Write}
use Rattle.host_record.specs.declared.status.Status.TheVariants as status
use Rattle.host_record.specs.Command.{is_forced, opcode}
use Rattle.host_session.specs.declared.hand.SessionHand.{SessionHand}
use Rattle.host_session.specs.declared.spec.SessionSpec.{SessionSpec}
use Rattle.host_turn.specs.Seats.{seen_by}
use Rattle.host_worker.specs.declared.hand.Hand.{Hand}
use Rattle.host_worker.specs.declared.server.Server.{Server}
use Rattle.host_worker.specs.declared.session.Session.{Session}

-- The record that landed is a forced write, taken so, that ended well.
pub record IsForcedLanding (es : List IntakeEntry) (l : Landing) (t : Taking) : Type 0 where
  pub stands : slice_get (takings es) l.index ≡ Some t
  pub accepted : t.verdict ≡ Accepted
  pub waits : t.waits ≡ false
  pub asks : opcode (request_in t) ≡ Some Write
  pub forced : IsTrue (is_forced (request_in t))
  pub ended : l.end.outcome ≡ status.Ok

-- Whichever history of the device begins with these steps, each image that a crash may leave after
-- it has in each block of each forced write that hand n answered 0 the write's bytes or those of a
-- later step.
abbrev pub KeepsForcedWrites : SessionSpec → ℕ → List IntakeEntry → List Step → Type 0
KeepsForcedWrites spec n es made =
    (j : ℕ) (l : Landing) (t : Taking) → slice_get (own_landings n es) j ≡ Some l
    → IsForcedLanding es l t → (history : List Step) → IsPrefix made history
    → (image left : List (List ℕ)) → IsCrashImage image (changes_of history) left
    → (k : ℕ) → k < (request_in t).length
    → spec.part.first + (request_in t).dev_offset + k < length image
    → HasSurvived image history spec.number l.index
    (spec.part.first + (request_in t).dev_offset + k) left

module _ {D : Type 0} {g : disk.Ghosts D} where
  -- at each of its sessions
  abbrev pub KeepsForcedOfEach : Server D g → Hand D g → Type 0
  KeepsForcedOfEach server hand =
      (k : ℕ) (s : Session) (h : SessionHand) → slice_get server.sessions.items k ≡ Some s
      → slice_get hand.sessions.items k ≡ Some h
      → KeepsForcedWrites s.spec hand.number (seen_by h.intake) (seen_by hand.device_seat)

-- Laws over histories and the calls of a step.
use Rattle.std.specs.Prelude.{ℕ, IsTrue, List, [], ◌∷◌, ◌++◌, length}
use Rattle.host_block.specs.declared.op.Op.{Op}
use Rattle.host_block.specs.Changes.{Change, is_barrier}
use Rattle.host_block.specs.Crash.{IsCrashImage, IsCurrent}
use Rattle.host_block.specs.Disk.{DiskState, block_at, Outcome, DiskCall, LeadAll}
use Rattle.host_cache.specs.Held.{Held}
use Rattle.host_cache.specs.Laws.{IsHeldOver}
use Rattle.host_device.specs.Calls.{IsCacheCall}
use Rattle.host_device.specs.Crashes.{CrashesLeave}

-- Over a state that keeps a history, a crash before, between, inside or after the disk calls of a
-- step leaves an image that the history before the step allows, however the step ends.
abbrev pub CrashInsideStep : Type 0
CrashInsideStep =
    (image : List (List ℕ)) (history : List Change) (op : Op) (size b : ℕ) (bytes : List ℕ)
    (old new : Held) (calls : List DiskCall) (outcome : Outcome) (s t : DiskState)
    → IsHeldOver image history size old s
    → IsCacheCall op (length image) size b bytes old calls outcome new → LeadAll calls s t
    → CrashesLeave (IsCrashImage image history) calls s t

-- What a crash right after a flush that didn't fail leaves is the content.
abbrev pub CrashAfterFlush : Type 0
CrashAfterFlush =
    (image : List (List ℕ)) (history : List Change) (flush : Change) (left : List (List ℕ))
    → IsTrue (is_barrier flush) → IsCrashImage image (history ++ flush ∷ []) left
    → IsCurrent image (history ++ flush ∷ []) (block_at left)

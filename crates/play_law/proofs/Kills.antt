-- What a kill in the middle of a run leaves.
use Rattle.std.proofs.Common.{ℕ, List, [], ◌∷◌, take}
use Rattle.crash_law.proofs.Survival.{flushed_writes_survive}
use Rattle.crash_law.specs.{KeepsFlushed}
use Rattle.host_block.specs.{IsCrashImage, DiskCall, DiskState}
use Rattle.host_device.specs.{CrashesLeave}
use Rattle.host_model.specs.{changes_of}
use Rattle.play_law.specs.{FlushedWritesSurviveKills}

-- what holds of each image that a crash leaves may be weakened
leave_more : (P Q : List (List ℕ) → Type 0) → ((left : List (List ℕ)) → P left → Q left) → (calls : List DiskCall) (old new : DiskState) → CrashesLeave P calls old new → CrashesLeave Q calls old new
leave_more P Q more [] old new l = (λ left is. more left (l.0 left is), l.1)
leave_more P Q more (call ∷ calls) old new l = (l.0, l.1, λ left is. more left (l.2 left is), leave_more P Q more calls l.0 new l.3)

pub flushed_writes_survive_kills : FlushedWritesSurviveKills
flushed_writes_survive_kills image report count calls old new lawful l = leave_more (IsCrashImage image (changes_of (take count report.steps.items))) (KeepsFlushed image report (take count report.steps.items))
    (λ left crash. flushed_writes_survive image report lawful count left crash) calls old new l

-- What a kill in the middle of a run leaves.
use Rattle.std.specs.Prelude.{ℕ, List, take}
use Rattle.crash_law.specs.Survival.{KeepsFlushed}
use Rattle.host_block.specs.Crash.{IsCrashImage}
use Rattle.host_block.specs.Disk.{DiskCall, DiskState}
use Rattle.host_device.specs.Crashes.{CrashesLeave}
use Rattle.host_model.specs.Changes.{changes_of}
use Rattle.host_report.specs.Lawful.{IsLawful}
use Rattle.host_report.specs.declared.report.Report.{Report}

-- A step of a device promises of its disk calls that a crash before, between, inside or after them
-- leaves an image that the steps before it allow. So what those steps flushed has survived in it.
abbrev pub FlushedWritesSurviveKills : Type 0
FlushedWritesSurviveKills =
    (image : List (List ℕ)) (report : Report) (count : ℕ) (calls : List DiskCall)
    (old new : DiskState) → IsLawful image report
    → let made = take count report.steps.items in CrashesLeave
    (IsCrashImage image (changes_of made)) calls old new → CrashesLeave
    (KeepsFlushed image report made) calls old new

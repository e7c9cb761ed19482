-- The headline of a run that is written out, and what the run leaves.
use Rattle.std.specs.Prelude.{◌≡◌, true, false, Some}
use Rattle.host_block.specs.Disk.{DiskState, fresh}
use Rattle.host_io.specs.MemDisk.{state_of}
use Rattle.host_io.specs.declared.mem_disk.MemDisk.{MemDisk}
use Rattle.host_play.specs.Plays.{IsReportOf}
use Rattle.host_run.specs.Ending.{IsItsScript}
use Rattle.host_run.specs.Headline.{Headline, IsLawfulOn, KeepsWhatWasFlushed, KeepsWhatWasForced, OutlivesCrash}
use Rattle.host_run.specs.Played.{ranges_in}
use Rattle.host_run.specs.Runs.{RunLeaves}
use Rattle.host_run.specs.Scene.{PlayedDisk, Scene, opening_image, played_disk, site_of}
use Rattle.host_run.specs.declared.status.RunStatus.TheVariants.{Done}
use Rattle.play_law.specs.Runs.{IsLaidOut}
use Rattle.play_law.specs.LawfulRuns.{IsLawfulOnAnyDisk}
use Rattle.script_played.specs.Played.{PlaysPlans}
use Rattle.run_rows.specs.Drive.{image}
use Rattle.run_rows.specs.Run.{disk_in, plans, playing, report, scene, script_text, unsynced}
use Rattle.run_rows.specs.Run.{written}

-- The one thing that isn't computed: that the report was gathered from a server that had these
-- sessions. The ends of a server have seats at its locks, which stand in memory, and a row has no
-- memory.
abbrev pub WasGathered : Type 0
WasGathered = IsReportOf plans (ranges_in report) 2 128 report

-- `run --dry disk.img` on a disk that tells nothing, which hands out this copy
abbrev pub untelling : Scene
untelling = scene false script_text (fresh image)

abbrev pub dry_scene : MemDisk → Scene
dry_scene copy = record untelling { playing = record playing { dry = true }; copy = Some copy }

abbrev pub copy_in : MemDisk → PlayedDisk
copy_in copy = played_disk (site_of (dry_scene copy))

pub record RunHasHeadline : Type 0 where
  -- the text is this script, within its limits, and the report's session played it
  pub script : IsItsScript (scene true script_text written) plans
  pub plays : PlaysPlans plans report
  -- the rest of the headline, a field each
  pub answered : IsLawfulOnAnyDisk report
  pub laid_out : IsLaidOut report
  pub lawful : IsLawfulOn (disk_in written) report
  pub outlives : OutlivesCrash (disk_in written) report
  pub keeps : KeepsWhatWasFlushed (disk_in written) report
  pub forced : KeepsWhatWasForced (disk_in written) report
  -- so a report that was gathered has the headline, and such a run ends with status 0 and this text
  pub headline : WasGathered → Headline (scene true script_text written) report
  pub leaves : WasGathered → RunLeaves (scene true script_text written) Done (Some report)
  -- a disk that doesn't tell promises nothing of its content, in whatever state it is left
  pub untold : WasGathered → (state : DiskState)
      → RunLeaves (scene false script_text state) Done (Some report)
  -- nor does it have to where a copy was played on: the promises are of the copy
  pub on_copy : WasGathered → (copy : MemDisk) → opening_image 512 copy ≡ image
      → state_of copy ≡ written → Headline (dry_scene copy) report
  pub not_on_copy : (copy : MemDisk) → opening_image 512 copy ≡ image → state_of copy ≡ unsynced
      → ¬ OutlivesCrash (copy_in copy) report

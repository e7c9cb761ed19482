-- What the report of a run promises.
use Rattle.std.specs.Prelude.{ℕ, IsTrue, List}
use Rattle.crash_law.specs.Forced.{KeepsForced, KeepsForcedAtEachMoment}
use Rattle.crash_law.specs.Survival.{KeepsAtEachMoment, KeepsFlushed}
use Rattle.host_block.specs.Crash.{IsCrashImage}
use Rattle.host_block.specs.Disk.{IsCrashOf}
use Rattle.host_model.specs.Changes.{changes_of}
use Rattle.host_report.specs.Lawful.{IsLawful}
use Rattle.host_report.specs.declared.report.Report.{Report}
use Rattle.play_law.specs.Runs.{IsLaidOut}
use Rattle.play_law.specs.LawfulRuns.{IsLawfulOnAnyDisk}
use Rattle.host_run.specs.Ending.{IsPlayed}
use Rattle.host_run.specs.Scene.{PlayedDisk, Scene, played_disk, site_of}

-- the report is lawful for the image that the disk held
abbrev pub IsLawfulOn : PlayedDisk → Report → Type 0
IsLawfulOn disk report = IsTrue disk.tells → IsLawful disk.image report

-- a crash of the disk leaves what the report's steps allow
abbrev pub OutlivesCrash : PlayedDisk → Report → Type 0
OutlivesCrash disk report =
    IsTrue disk.tells → (left : List (List ℕ)) → IsCrashOf disk.state left
    → IsCrashImage disk.image (changes_of report.steps.items) left

-- What was flushed has survived in what a crash of the disk leaves, and in what the steps made by
-- then allow a crash to leave at any moment of the run.
pub record KeepsWhatWasFlushed (disk : PlayedDisk) (report : Report) : Type 0 where
  pub kept : IsTrue disk.tells → (left : List (List ℕ)) → IsCrashOf disk.state left
      → KeepsFlushed disk.image report report.steps.items left
  pub moments : IsTrue disk.tells → KeepsAtEachMoment disk.image report

-- What a forced write wrote that was answered 0 has survived in what a crash of the disk leaves;
-- and in what the steps made by then allow a crash to leave at any moment of the run, once the
-- write's own flush is among them.
pub record KeepsWhatWasForced (disk : PlayedDisk) (report : Report) : Type 0 where
  pub kept : IsTrue disk.tells → (left : List (List ℕ)) → IsCrashOf disk.state left
      → KeepsForced disk.image report left
  pub moments : IsTrue disk.tells → KeepsForcedAtEachMoment disk.image report

-- **The headline of a run.**
pub record Headline (scene : Scene) (report : Report) : Type 0 where
  -- The script was played, by a server that was started with a session for each of the script's and
  -- was finished.
  pub played : IsPlayed scene report
  -- The requests were answered as the rules say, whatever the disk: each session is lawful, and the
  -- steps are theirs.
  pub answered : IsLawfulOnAnyDisk report
  -- Each session was on the range that one layout of the disk's blocks gives to its partition,
  -- whatever the disk.
  pub laid_out : IsLaidOut report
  -- The report is lawful for the image that was played on, where that disk tells.
  pub lawful : IsLawfulOn (played_disk (site_of scene)) report
  -- A crash of the disk that was played on leaves what the report's steps allow.
  pub outlives : OutlivesCrash (played_disk (site_of scene)) report
  -- In it has survived, and would have at every moment before, each step that didn't fail of each
  -- write and trim that was answered before an acknowledged flush was sent.
  pub keeps : KeepsWhatWasFlushed (played_disk (site_of scene)) report
  -- So has each block of each forced write that was answered 0, with no other flush.
  pub forced : KeepsWhatWasForced (played_disk (site_of scene)) report

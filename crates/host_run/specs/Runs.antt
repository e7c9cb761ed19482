-- What a run on a script leaves.
use Rattle.std.specs.Prelude.{Bool, IfNone, IfSome, Option}
use Rattle.host_report.specs.declared.report.Report.{Report}
use Rattle.play_law.specs.Runs.{IsLaidOut}
use Rattle.play_law.specs.LawfulRuns.{IsLawfulOnAnyDisk}
use Rattle.host_run.specs.Ending.{IsComplete, IsDoneOrOutOfMemory, IsScenePlayable, IsRefused}
use Rattle.host_run.specs.Headline.{Headline, IsLawfulOn, KeepsWhatWasFlushed}
use Rattle.host_run.specs.Headline.{KeepsWhatWasForced, OutlivesCrash}
use Rattle.host_run.specs.Played.{LeavesDisks, LeavesPlayed}
use Rattle.host_run.specs.Scene.{NoneFaulted, Scene, Site, played_disk, site_of}
use Rattle.host_run.specs.Words.{text_of}
use Rattle.host_run.specs.Writes.{TellsRun}
use Rattle.host_run.specs.declared.status.RunStatus.{RunStatus}

-- A script was played there, with this report: the disk that was played on keeps its promises, and
-- what is left of the disks.
pub record IsRunOn (site : Site) (cut : Bool) (report : Report) : Type 0 where
  pub answered : IsLawfulOnAnyDisk report
  pub laid_out : IsLaidOut report
  pub lawful : IsLawfulOn (played_disk site) report
  pub outlives : OutlivesCrash (played_disk site) report
  pub keeps : KeepsWhatWasFlushed (played_disk site) report
  pub forced : KeepsWhatWasForced (played_disk site) report
  pub left : LeavesPlayed site cut report

-- What a run on a script leaves, with this status and report.
pub record RunLeaves (scene : Scene) (status : RunStatus) (report : Option Report) : Type 0 where
  -- With a report, the headline.
  pub headline : IfSome report (Headline scene)
  -- Without one, the status is that of a refusal, which says its cause.
  pub refused : IfNone report (IsRefused scene status)
  -- What can be played is played, where none of source, disk and sink failed and there was memory.
  pub playable : IsScenePlayable scene → NoneFaulted scene → IsDoneOrOutOfMemory status
  -- Where the disk didn't fail no step is faulted, and where the sink didn't either the run is
  -- done, or there was no memory.
  pub complete : IfSome report (IsComplete scene status)
  -- What is left of the disk that was handed in, and of the copy.
  pub disks : LeavesDisks (site_of scene) scene.playing.cut report
  -- The text of the report was put, up to a failure of the sink; status 0 says that it was put
  -- whole.
  pub text : IfSome report
      (λ report. TellsRun scene.sink scene.new_sink (text_of scene.playing.told report) status)

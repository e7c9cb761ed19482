-- The script of a run, why a run is refused, and what can be played.
use Rattle.std.specs.Prelude.{◌≡◌, ◌⊎◌, ℕ, IsTrue, List, Option, Some, None, Err, All}
use Rattle.host_gpt.specs.declared.which.Which.{Which}
use Rattle.host_part.specs.Served.{Layout}
use Rattle.host_report.specs.declared.report.Report.{Report}
use Rattle.host_run.specs.Played.{HasNoFaults, IsPlayOf, SaysCause}
use Rattle.host_run.specs.Refusals.{start_status}
use Rattle.host_run.specs.Scene.{Scene, image_at, site_of}
use Rattle.host_run.specs.Seen.{DiskFaulted, SinkFaulted, SourceSeen}
use Rattle.host_run.specs.Words.{Making, plans_made}
use Rattle.host_run.specs.declared.status.RunStatus.{RunStatus}
use Rattle.host_run.specs.declared.status.RunStatus.TheVariants.{Done, OutOfMemory}
use Rattle.host_start.specs.Images.{IsLayoutOn, IsServedPart, IsSmallEnough, parts_of}
use Rattle.host_start.specs.Reading.{IsReadAs, IsWithinLimits, Makes, SaysOfScript}
use Rattle.host_start.specs.Refusals.{IsAfterScript, IsOfScript}
use Rattle.host_start.specs.declared.error.StartError.{StartError}
use Rattle.script_model.specs.Limit.{limit_of}
use Rattle.script_model.specs.Plans.{PlannedSession}

-- ---- the script

-- A script, which passes no limit: what was left in the source, where it tells, read to its end; or
-- the one that is made.
abbrev pub IsScriptOf : ℕ → Option Making → SourceSeen → SourceSeen → List PlannedSession → Type 0
IsScriptOf size None before after plans =
    IsTrue before.tells → IsReadAs (λ text. IsWithinLimits size text plans) before.left after.left
IsScriptOf size (Some making) before after plans =
    (plans ≡ plans_made making) × (limit_of size plans ≡ None)

-- why there is none
abbrev pub SaysNoScript : ℕ → Option Making → SourceSeen → SourceSeen → StartError → Type 0
SaysNoScript size None before after error =
    IsTrue before.tells → SaysOfScript size before.left after.left error
SaysNoScript size (Some making) before after error = Makes size (plans_made making) (Err error)

-- the script of a run
abbrev pub IsItsScript : Scene → List PlannedSession → Type 0
IsItsScript scene plans =
    IsScriptOf scene.playing.size scene.playing.making scene.source scene.new_source plans

-- The script was played, by a server that was started with a session for each of the script's and
-- was finished.
pub record IsPlayed (scene : Scene) (report : Report) : Type 0 where
  pub plans : List PlannedSession
  pub script : IsItsScript scene plans
  pub is : IsPlayOf plans scene.playing.workers scene.playing.depth report

-- ---- refusals

-- there is no script, and the error says why
pub record IsNoScript (scene : Scene) (error : StartError) : Type 0 where
  pub cause : IsOfScript error
  pub says : SaysNoScript scene.playing.size scene.playing.making scene.source scene.new_source
      error

-- there is a script, and the error says what of the image is the cause that it isn't played
pub record IsNoStart (scene : Scene) (error : StartError) : Type 0 where
  pub cause : IsAfterScript error
  pub plans : List PlannedSession
  pub script : IsItsScript scene plans
  pub says : SaysCause (site_of scene) plans error

-- the status is that of a refusal, which says its cause
pub record IsRefused (scene : Scene) (status : RunStatus) : Type 0 where
  pub error : StartError
  pub is : status ≡ start_status error
  pub why : IsNoScript scene error ⊎ IsNoStart scene error

-- ---- what can be played

-- a script stands in the source, which tells, or is the one that is made; it passes no limit
abbrev pub StandsThere : ℕ → Option Making → SourceSeen → List PlannedSession → Type 0
StandsThere size None before plans = IsTrue before.tells × IsWithinLimits size before.left plans
StandsThere size (Some making) before plans =
    (plans ≡ plans_made making) × (limit_of size plans ≡ None)

-- There is a script, and the disk tells an image that isn't too large, whose table serves each
-- partition that the script names.
pub record IsScenePlayable (scene : Scene) : Type 0 where
  pub plans : List PlannedSession
  pub script : StandsThere scene.playing.size scene.playing.making scene.source plans
  pub disk_tells : IsTrue scene.disk.shape.tells
  pub few : IsSmallEnough (image_at (site_of scene))
  pub which : Which
  pub layout : Layout
  pub on_image : IsLayoutOn (image_at (site_of scene)) which layout
  pub served : All (IsServedPart layout) (parts_of plans)

-- the run is done, or there was no memory for it
abbrev pub IsDoneOrOutOfMemory : RunStatus → Type 0
IsDoneOrOutOfMemory status = (status ≡ Done) ⊎ (status ≡ OutOfMemory)

-- Where the disk didn't fail no step is faulted, and where the sink didn't either the run is done,
-- or there was no memory for its closing flush.
pub record IsComplete (scene : Scene) (status : RunStatus) (report : Report) : Type 0 where
  pub no_faults : ¬ DiskFaulted scene.disk scene.new_disk → HasNoFaults report
  pub done : ¬ DiskFaulted scene.disk scene.new_disk → ¬ SinkFaulted scene.sink scene.new_sink
      → IsDoneOrOutOfMemory status

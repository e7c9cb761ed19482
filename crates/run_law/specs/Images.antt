-- A run on an image on which its script can't be played ends with the status that says why.
use Rattle.std.specs.Prelude.{◌≡◌, ℕ, ◌<◌, IsTrue, List, length, Option}
use Rattle.host_gpt.specs.Table.{TableIsAbsent, TableIsTooLarge}
use Rattle.host_report.specs.declared.report.Report.{Report}
use Rattle.host_run.specs.Ending.{StandsThere}
use Rattle.host_run.specs.Runs.{RunLeaves}
use Rattle.host_run.specs.Scene.{Scene, image_at, site_of}
use Rattle.host_run.specs.declared.status.RunStatus.{RunStatus}
use Rattle.host_run.specs.declared.status.RunStatus.TheVariants.{NoPart, NoTable, TooLarge}
use Rattle.host_start.specs.Images.{IsSmallEnough, LacksPart, parts_of}
use Rattle.host_start.specs.declared.error.Limit.TheVariants as limit
use Rattle.script_model.specs.Plans.{PlannedSession}
use Rattle.run_law.specs.Ends.{EndsWith, IsFailure}

-- this script, which passes no limit, is to be played on this image, which the disk tells
pub record IsAskedOn (scene : Scene) (plans : List PlannedSession) (image : List (List ℕ))
    : Type 0 where
  pub script : StandsThere scene.playing.size scene.playing.making scene.source plans
  pub tells : IsTrue scene.disk.shape.tells
  pub held : image_at (site_of scene) ≡ image

-- The image has too many blocks: no session began, and the run ends with 9 `blocks`, unless disk or
-- source failed or memory was refused.
abbrev pub LargeImagesAreTold : Type 0
LargeImagesAreTold =
    (scene : Scene) (status : RunStatus) (report : Option Report) (plans : List PlannedSession)
    (image : List (List ℕ)) → RunLeaves scene status report → IsAskedOn scene plans image
    → 262144 < length image → EndsWith IsFailure (TooLarge limit.Blocks) status report

-- it has no table: with 3
abbrev pub AbsentTablesAreTold : Type 0
AbsentTablesAreTold =
    (scene : Scene) (status : RunStatus) (report : Option Report) (plans : List PlannedSession)
    (image : List (List ℕ)) → RunLeaves scene status report → IsAskedOn scene plans image
    → IsSmallEnough image → TableIsAbsent image → EndsWith IsFailure NoTable status report

-- its table is too large: with 9 `table`
abbrev pub LargeTablesAreTold : Type 0
LargeTablesAreTold =
    (scene : Scene) (status : RunStatus) (report : Option Report) (plans : List PlannedSession)
    (image : List (List ℕ)) → RunLeaves scene status report → IsAskedOn scene plans image
    → IsSmallEnough image → TableIsTooLarge image
    → EndsWith IsFailure (TooLarge limit.Table) status report

-- it has a table, and this is the first session of the script whose partition isn't served: with
-- 10, the session and the partition
abbrev pub UnservedSessionsAreTold : Type 0
UnservedSessionsAreTold =
    (scene : Scene) (status : RunStatus) (report : Option Report) (plans : List PlannedSession)
    (image : List (List ℕ)) (session part : ℕ) → RunLeaves scene status report
    → IsAskedOn scene plans image → IsSmallEnough image
    → LacksPart image (parts_of plans) session part
    → EndsWith IsFailure (NoPart session part) status report

-- On whatever disk, also one that tells nothing: where a script stands there and the disk is left
-- with too many blocks, no session began, and the run ends with 9 `blocks`, unless disk or source
-- failed or memory was refused.
abbrev pub LargeDisksAreTold : Type 0
LargeDisksAreTold =
    (scene : Scene) (status : RunStatus) (report : Option Report) (plans : List PlannedSession)
    → RunLeaves scene status report
    → StandsThere scene.playing.size scene.playing.making scene.source plans
    → 262144 < scene.new_disk.shape.blocks
    → EndsWith IsFailure (TooLarge limit.Blocks) status report

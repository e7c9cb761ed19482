-- What playing a script leaves.
use Rattle.std.specs.Prelude.{◌≡◌, ◌↔◌, ◌≤◌, ℕ, Bool, true, false, not, IsTrue, List, length, map}
use Rattle.std.specs.Prelude.{Option, Some, None, IsSome, IfSome}
use Rattle.host_block.specs.declared.range.Range.{Range}
use Rattle.host_device.specs.Faults.{RoseBy, faulted_count}
use Rattle.host_io.specs.declared.mem_disk.MemDisk.{MemDisk}
use Rattle.host_play.specs.Plays.{IsReportOf}
use Rattle.host_report.specs.declared.closing.Closing.TheVariants.{Cut as WasCut}
use Rattle.host_report.specs.declared.report.Report.{Report}
use Rattle.host_run.specs.Scene.{Site, image_at, opening_image}
use Rattle.host_run.specs.Seen.{DiskFaulted, WasRead}
use Rattle.host_start.specs.Images.{IsDiskOpened, SaysOfBlocks, SaysOfImage, parts_of}
use Rattle.host_start.specs.Refusals.{IsAfterAttach, IsAfterScript, IsOfContent}
use Rattle.host_start.specs.declared.error.StartError.{StartError}
use Rattle.host_start.specs.declared.error.StartError.TheVariants.{Disk as DiskFails}
use Rattle.script_model.specs.Plans.{PlannedSession}
use Rattle.script_played.specs.Played.{PlaysPlans}

-- ---- the report

-- the blocks that the report's sessions had
abbrev pub ranges_in : Report → List Range
ranges_in report = map (λ session. session.range) report.sessions.items

-- The report is of a run that played these plans, and was gathered from a server that was started
-- with a session for each plan and finished.
pub record IsPlayOf (plans : List PlannedSession) (workers depth : ℕ) (report : Report)
    : Type 0 where
  pub played : PlaysPlans plans report
  pub gathered : IsReportOf plans (ranges_in report) workers depth report

-- no step of the report is faulted
abbrev pub HasNoFaults : Report → Type 0
HasNoFaults report = faulted_count report.steps.items ≡ 0

-- ---- the disks

-- a copy opened with the image, where the disk tells
abbrev pub IsOpenedThere : Site → Type 0
IsOpenedThere site =
    IsTrue site.disk.shape.tells
    → IfSome site.copy (λ copy. opening_image site.size copy ≡ image_at site)

-- the image is attached to the disk that was handed in: to be written where that is played on, to
-- be read alone where a copy is
abbrev pub IsSiteOpened : Site → Type 0
IsSiteOpened site = IsDiskOpened site.size (not site.on_copy) site.new_disk.shape

-- a copy has as many blocks as the disk, whether or not that tells
abbrev pub HasItsBlocks : Site → Type 0
HasItsBlocks site =
    IfSome site.copy (λ copy. length (opening_image site.size copy) ≡ site.new_disk.shape.blocks)

-- What a run leaves of the disk and of the copy, and what its report tells of them.
pub record LeavesPlayed (site : Site) (cut : Bool) (report : Report) : Type 0 where
  pub size_is : report.size ≡ site.size
  -- no image of more blocks than this is played
  pub few : report.blocks ≤ 262144
  -- the blocks are the disk's own, whether or not it tells, and the image is attached there
  pub own_blocks : report.blocks ≡ site.new_disk.shape.blocks
  pub attached : IsSiteOpened site
  -- the closing flush was left out exactly where that is asked for
  pub cut_is : (report.closing ≡ WasCut) ↔ IsTrue cut
  -- there is a copy exactly where that is asked for
  pub copy_is : IsSome site.copy ↔ IsTrue site.on_copy
  pub opened : IsOpenedThere site
  -- each faulted step shows in the disk's count; on a copy there is none
  pub faults : RoseBy (faulted_count report.steps.items) site.disk.counts.faults
      site.new_disk.counts.faults
  pub no_faults : IsTrue site.on_copy → HasNoFaults report
  -- the disk was only read where a copy was played on
  pub reads : IsTrue site.on_copy → WasRead site.disk site.new_disk

-- What a run that is refused leaves of them.
pub record LeavesUnplayed (site : Site) : Type 0 where
  pub reads : WasRead site.disk site.new_disk
  pub opened : IsOpenedThere site

-- what is left of them, by a run or where none was played
abbrev pub LeavesDisks : Site → Bool → Option Report → Type 0
LeavesDisks site cut (Some report) = LeavesPlayed site cut report
LeavesDisks site cut None = LeavesUnplayed site

-- ---- no session began

-- a copy is handed out exactly where its content is the cause
abbrev pub HandsCopy : Bool → Option MemDisk → StartError → Type 0
HandsCopy true copy error = IsSome copy ↔ IsOfContent error
HandsCopy false copy error = copy ≡ None

-- What an error says that refuses these plans.
pub record SaysCause (site : Site) (plans : List PlannedSession) (error : StartError) : Type 0 where
  -- of the image that the disk held, where it tells
  pub told : IsTrue site.disk.shape.tells → SaysOfImage (image_at site) (parts_of plans) error
  -- of the image that the copy opened with, where one is handed out: whether or not the disk tells
  pub found : IfSome site.copy
      (λ copy. SaysOfImage (opening_image site.size copy) (parts_of plans) error)
  pub found_blocks : HasItsBlocks site
  -- of the number of blocks that the disk has, and how the image is attached there
  pub blocks : SaysOfBlocks site.new_disk.shape.blocks error
  pub attached : IsAfterAttach error → IsSiteOpened site

-- What is left there where these plans weren't played, and why.
pub record IsNoRun (site : Site) (plans : List PlannedSession) (error : StartError) : Type 0 where
  pub cause : IsAfterScript error
  pub fault : error ≡ DiskFails → DiskFaulted site.disk site.new_disk
  pub says : SaysCause site plans error
  pub copy_is : HandsCopy site.on_copy site.copy error
  pub left : LeavesUnplayed site

-- How a run that can't be played ends.
use Rattle.std.specs.Prelude.{◌≡◌, ◌⊎◌, Option, None}
use Rattle.host_report.specs.declared.report.Report.{Report}
use Rattle.host_run.specs.declared.status.RunStatus.{RunStatus}
use Rattle.host_run.specs.declared.status.RunStatus.TheVariants.{DiskFault, OutOfMemory}
use Rattle.host_run.specs.declared.status.RunStatus.TheVariants.{ScriptFault}

-- ---- what isn't a cause in script or image

-- memory was refused
abbrev pub IsNoMemory : RunStatus → Type 0
IsNoMemory status = status ≡ OutOfMemory

-- the source failed, or memory was refused
abbrev pub IsUnread : RunStatus → Type 0
IsUnread status = (status ≡ ScriptFault) ⊎ IsNoMemory status

-- the disk or the source failed, or memory was refused
abbrev pub IsFailure : RunStatus → Type 0
IsFailure status = (status ≡ DiskFault) ⊎ IsUnread status

-- ---- the end

-- the status is the one that is due, or one of these
abbrev pub IsDue : (RunStatus → Type 0) → RunStatus → RunStatus → Type 0
IsDue others due status = (status ≡ due) ⊎ others status

-- No session began, and the status is the one that is due, or one of these.
pub record EndsWith (others : RunStatus → Type 0) (due status : RunStatus) (report : Option Report)
    : Type 0 where
  pub no_report : report ≡ None
  pub status_is : IsDue others due status

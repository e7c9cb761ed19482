-- How a run ends.
use Rattle.std.specs.Prelude.{◌≡◌, ◌↔◌, ℕ, Bool, true, false, Option, Some, None, IsSome}
use Rattle.host_run.specs.Made.{IsMakeStatus}
use Rattle.host_run.specs.Refusals.{refused_status}
use Rattle.host_io.specs.declared.mem_disk.MemDisk.{MemDisk}
use Rattle.host_start.specs.declared.error.Limit.TheVariants as limit
use Rattle.host_run.specs.Words.{Making, TableOf}
use Rattle.host_run.specs.declared.refusal.Refusal.{Refusal}
use Rattle.host_report.specs.declared.closing.Closing.{Closing}
use Rattle.host_report.specs.declared.closing.Closing.TheVariants.{Good, Fault, Cut, NoMemory}
use Rattle.host_report.specs.declared.report.Report.{Report}
use Rattle.host_run.specs.declared.status.RunStatus.{RunStatus}
use Rattle.host_run.specs.declared.status.RunStatus.TheVariants.{Done, ClosingFault, BadWords}
use Rattle.host_run.specs.declared.status.RunStatus.TheVariants.{NoTable, BadScript, DiskFault}
use Rattle.host_run.specs.declared.status.RunStatus.TheVariants.{ScriptFault, SinkFault}
use Rattle.host_run.specs.declared.status.RunStatus.TheVariants.{OutOfMemory, TooLarge, NoPart}
use Rattle.host_worker.specs.Gathered.{reported}
use Rattle.host_worker.specs.declared.gathering.Served.{Served}

-- the number of a status
abbrev pub run_status_number : RunStatus → ℕ
run_status_number Done = 0
run_status_number ClosingFault = 1
run_status_number BadWords = 2
run_status_number NoTable = 3
run_status_number (BadScript line cause) = 4
run_status_number DiskFault = 5
run_status_number ScriptFault = 6
run_status_number SinkFault = 7
run_status_number OutOfMemory = 8
run_status_number (TooLarge what) = 9
run_status_number (NoPart session part) = 10

-- the status of a run whose sessions began, by its closing flush and whether its text was taken
-- whole
abbrev pub played_status : Closing → Bool → RunStatus
played_status Good true = Done
played_status Good false = SinkFault
played_status Cut true = Done
played_status Cut false = SinkFault
played_status Fault was_written = ClosingFault
played_status NoMemory was_written = OutOfMemory

-- such a status
abbrev pub IsEndStatus : RunStatus → Type 0
IsEndStatus Done = Unit {0}
IsEndStatus ClosingFault = Unit {0}
IsEndStatus SinkFault = Unit {0}
IsEndStatus OutOfMemory = Unit {0}
IsEndStatus _ = ⊥

-- The report of a run comes with the statuses 0, 1 and 7, with 8 just where the closing flush was
-- refused memory, and with no other; status 1 comes just where the closing flush failed. Without a
-- report the status is that of a refusal: 2 to 6 or 8 to 10.
abbrev pub HasRunReport : RunStatus → Option Report → Type 0
HasRunReport status None = (refusal : Refusal) × (status ≡ refused_status refusal)
HasRunReport status (Some report) =
    (was_written : Bool) × (status ≡ played_status report.closing was_written)

-- no report, and a status of `make`
pub record HasMade (status : RunStatus) (report : Option Report) : Type 0 where
  pub status_is : IsMakeStatus status
  pub none : report ≡ None

-- a call that lists a table or makes a script has no report; each other one has one as a run
abbrev pub HasReport : Option TableOf → Option Making → RunStatus → Option Report → Type 0
HasReport (Some listing) making status report = report ≡ None
HasReport None (Some making) status report = HasMade status report
HasReport None None status report = HasRunReport status report

-- what says that a server served a run comes with the report of that run, and keeps it
abbrev pub IsServedAs : Option Served → Option Report → Type 0
IsServedAs (Some served) (Some report) = reported served ≡ report
IsServedAs None None = Unit {0}
IsServedAs _ _ = ⊥

-- the status tells of the content of an image
abbrev pub IsContentStatus : RunStatus → Type 0
IsContentStatus NoTable = Unit {0}
IsContentStatus (TooLarge limit.Table) = Unit {0}
IsContentStatus (NoPart session part) = Unit {0}
IsContentStatus _ = ⊥

-- A copy is handed out with a report, and without one exactly where its content is the cause of the
-- refusal; a run on the disk itself hands out none.
abbrev pub HandsOut : Bool → Option MemDisk → RunStatus → Option Report → Type 0
HandsOut true dry status (Some report) = IsSome dry
HandsOut true dry status None = IsSome dry ↔ IsContentStatus status
HandsOut false dry status report = dry ≡ None

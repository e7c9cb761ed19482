-- Which statuses come with a report, and with a copy.
use Rattle.std.specs.Prelude.{Some, None, true, false}
use Rattle.host_io.specs.declared.mem_disk.MemDisk.{MemDisk}
use Rattle.host_report.specs.declared.closing.Closing.{Closing}
use Rattle.host_report.specs.declared.closing.Closing.TheVariants.{Cut, Fault, Good, NoMemory}
use Rattle.host_report.specs.declared.report.Report.{Report}
use Rattle.host_run.specs.Statuses.{HandsOut, HasRunReport}
use Rattle.host_run.specs.declared.status.RunStatus.{RunStatus}
use Rattle.host_run.specs.declared.status.RunStatus.TheVariants.{ClosingFault, DiskFault, Done}
use Rattle.host_run.specs.declared.status.RunStatus.TheVariants.{NoTable, OutOfMemory, SinkFault}

-- a run that closed so ends with the status
abbrev pub EndsWith : Closing → RunStatus → Type 0
EndsWith closing status =
    (report : Report) → HasRunReport status (Some (record report { closing = closing }))

-- it doesn't
abbrev pub NeverEndsWith : Closing → RunStatus → Type 0
NeverEndsWith closing status =
    (report : Report) → ¬ HasRunReport status (Some (record report { closing = closing }))

pub record StatusesComeWithReports : Type 0 where
  pub good : EndsWith Good Done × EndsWith Good SinkFault
  pub fault : EndsWith Fault ClosingFault × NeverEndsWith Fault Done × NeverEndsWith Fault SinkFault
  pub no_memory : EndsWith NoMemory OutOfMemory × NeverEndsWith Cut OutOfMemory
  -- a refusal is no end of a run with a report, and the other way round
  pub refused : NeverEndsWith Good NoTable × (HasRunReport NoTable None)
      × (¬ HasRunReport Done None) × (¬ HasRunReport ClosingFault None)
  -- the copy is handed out where its table is the cause, and not where the disk failed; a run on
  -- the disk has none
  pub copy : (dry : MemDisk)
      → HandsOut true (Some dry) NoTable None × (¬ HandsOut true None NoTable None)
      × HandsOut true None DiskFault None × (¬ HandsOut true (Some dry) DiskFault None)
      × (¬ HandsOut false (Some dry) NoTable None)

-- How the program ends.
use Rattle.std.specs.Prelude.{◌≡◌, ◌≢◌, ◌⊎◌, ℕ, false, Option, None, IfNone, IfSome}
use Rattle.host_io.specs.Disks.{no_counts}
use Rattle.host_io.specs.declared.mem_disk.MemDisk.{MemDisk}
use Rattle.host_report.specs.declared.report.Report.{Report}
use Rattle.host_run.specs.Listed.{ListLeaves}
use Rattle.host_run.specs.Made.{PutsScript}
use Rattle.host_run.specs.Refusals.{refusal_line}
use Rattle.host_run.specs.Runs.{RunLeaves}
use Rattle.host_run.specs.Seen.{DiskFaulted, DiskSeen, SinkFaulted, SinkSeen, SourceFaulted}
use Rattle.host_run.specs.Seen.{SourceSeen}
use Rattle.host_run.specs.Statuses.{HasReport, run_status_number}
use Rattle.host_run.specs.Words.{listing_in, making_in, playing_in}
use Rattle.host_run.specs.Writes.{PutsText}
use Rattle.host_run.specs.declared.status.RunStatus.{RunStatus}
use Rattle.host_run.specs.declared.status.RunStatus.TheVariants.{BadWords, DiskFault, Done}
use Rattle.host_run.specs.declared.status.RunStatus.TheVariants.{OutOfMemory, ScriptFault}
use Rattle.host_run.specs.declared.status.RunStatus.TheVariants.{SinkFault}
use Rattle.host_words.specs.Commands.{Meaning}

-- what is outside at one moment
pub record Outside : Type 0 where
  pub source : SourceSeen
  pub disk : DiskSeen
  pub sink : SinkSeen

-- The number is that of the status with which a run on words of this meaning ended, from one moment
-- to the other: there are a status, a report and a copy, of which holds what the top call says of
-- them.
pub record IsRunEnd (meaning : Option Meaning) (before after : Outside) (number : ℕ) : Type 0 where
  pub status : RunStatus
  pub report : Option Report
  pub copy : Option MemDisk
  pub number_is : number ≡ run_status_number status
  pub has_report : HasReport (listing_in meaning) (making_in meaning) status report
  -- words outside the grammar are told
  pub bad_words : status ≡ BadWords → meaning ≡ None
  pub outside : meaning ≡ None → (status ≡ BadWords) ⊎ (status ≡ OutOfMemory)
  -- a failure is told only where that count rose
  pub disk_fault : status ≡ DiskFault → DiskFaulted before.disk after.disk
  pub script_fault : status ≡ ScriptFault → SourceFaulted before.source after.source
  pub sink_fault : status ≡ SinkFault → SinkFaulted before.sink after.sink
  -- a refusal puts its line
  pub line : IfNone report (status ≢ Done → status ≢ SinkFault
      → PutsText before.sink after.sink (refusal_line status))
  -- what each command leaves
  pub run : IfSome (playing_in meaning) (λ playing. RunLeaves (record {
    playing = playing;
    source = before.source;
    new_source = after.source;
    disk = before.disk;
    new_disk = after.disk;
    sink = before.sink;
    new_sink = after.sink;
    copy = copy;
  }) status report)
  pub list : IfSome (listing_in meaning) (λ listing. ListLeaves (record {
    asked = listing;
    disk = before.disk;
    new_disk = after.disk;
    sink = before.sink;
    new_sink = after.sink;
  }) status)
  pub make : IfSome (making_in meaning) (λ making. PutsScript before.sink after.sink making status)

-- no call has touched what is outside, and it tells nothing of its content, as files and streams of
-- the system
pub record IsUntouched (before : Outside) : Type 0 where
  pub source : before.source.faults ≡ 0
  pub sink : before.sink.faults ≡ 0
  pub disk : before.disk.counts ≡ no_counts
  pub not_attached : before.disk.shape.attached ≡ false
  pub not_writable : before.disk.shape.writable ≡ false
  pub source_untold : before.source.tells ≡ false
  pub sink_untold : before.sink.tells ≡ false
  pub disk_untold : before.disk.shape.tells ≡ false

-- the number is that of a run that began on fresh objects
pub record IsProgramEnd (number : ℕ) : Type 0 where
  pub meaning : Option Meaning
  pub before : Outside
  pub after : Outside
  pub fresh : IsUntouched before
  pub ended : IsRunEnd meaning before after number

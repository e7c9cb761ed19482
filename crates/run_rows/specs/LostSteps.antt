-- Runs in which each write that ended well is kept in the end, and a step is lost all the same.
use Rattle.std.specs.Prelude.{ℕ, true, List, [], ◌∷◌}
use Rattle.crash_law.specs.Ended.{KeepsEnded}
use Rattle.crash_law.specs.Survival.{KeepsFlushed}
use Rattle.host_block.specs.Disk.{IsCrashOf, fresh}
use Rattle.host_block.specs.declared.op.Op.TheVariants as op
use Rattle.host_model.specs.declared.event.Event.{Event}
use Rattle.host_model.specs.declared.event.Event.TheVariants.{Attached, Drained, Filled, Received}
use Rattle.host_model.specs.declared.event.Event.TheVariants.{Sent}
use Rattle.host_model.specs.declared.memory.MemEntry.{MemEntry}
use Rattle.host_model.specs.declared.memory.MemEvent.TheVariants as memory
use Rattle.host_model.specs.declared.verdict.Verdict.TheVariants.{Accepted}
use Rattle.host_record.specs.Response.{response_bytes}
use Rattle.host_record.specs.Status.{status_number}
use Rattle.host_record.specs.declared.status.Status.TheVariants as status
use Rattle.host_report.specs.declared.report.Report.{Report}
use Rattle.host_report.specs.declared.session.SessionReport.{SessionReport}
use Rattle.host_run.specs.Headline.{KeepsWhatWasFlushed}
use Rattle.play_law.specs.LawfulRuns.{IsLawfulOnAnyDisk}
use Rattle.run_rows.specs.Drive.{cells, image}
use Rattle.run_rows.specs.Run.{answer, by, disk_in, ended_well, flush, in_room, log, partition}
use Rattle.run_rows.specs.Run.{record_of, report_with, session_on, step, written}

-- ---- a write that failed: its first block was written, its second wasn't, and the client had that
-- answer before it sent the flush

abbrev pub failed_log : List Event
failed_log =
    Attached 2 1 ∷ Filled 1 0 2 7 true ∷ Sent 0 (record_of 2 10 1 2 0)
    ∷ Received (response_bytes
    (record { status = status_number status.Io; reqid = 10; group = 0; count = 1 }))
    ∷ Sent 1 flush ∷ answer 20 ∷ Drained ∷ []

abbrev pub failed_buffer : List MemEntry
failed_buffer =
    by 2 (memory.Attach 1 2 0) ∷ by 2 (memory.Fill 1 0 2 7) ∷ by 1 (memory.Pin 0 1 1)
    ∷ by 1 (memory.Lift 0 0 1 0 (cells 7)) ∷ by 1 (memory.Lift 0 1 1 1 (cells 7))
    ∷ by 1 (memory.Done 0 1) ∷ by 2 (memory.Release 1) ∷ []

abbrev pub failed_session : SessionReport
failed_session = record (session_on 1 partition failed_log) {
  taken = in_room (record { verdict = Accepted; outcome = status.Io } ∷ ended_well ∷ []);
  memory = in_room failed_buffer;
}

abbrev pub failed_write : Report
failed_write =
    report_with (failed_session ∷ []) (step 0 op.Write 3 (cells 7)
    ∷ record (step 0 op.Write 4 (cells 7)) { k = 1; faulted = true } ∷ step 1 op.Flush 0 [] ∷ [])

-- ---- the flush's step was made before that of the write, which had been answered before the flush
-- was sent

abbrev pub flushed_early : Report
flushed_early =
    report_with (session_on 1 partition log ∷ [])
    (step 1 op.Flush 0 [] ∷ step 0 op.Write 3 (cells 7) ∷ step 2 op.Read 3 (cells 7) ∷ [])

-- ---- the rows

pub record LostStepsAreRefused : Type 0 where
  -- The failed write is one that the rules allow, and no write ended well. A disk that has the
  -- first block keeps what was flushed, and one that has lost it doesn't.
  pub lawful : IsLawfulOnAnyDisk failed_write
  pub none_ended : (left : List (List ℕ)) → KeepsEnded image failed_write left
  pub step_kept : KeepsWhatWasFlushed (disk_in written) failed_write
  pub step_lost : ¬ KeepsWhatWasFlushed (disk_in (fresh image)) failed_write
  -- With the early flush nothing is missing in the end. A crash right after the flush loses the
  -- write.
  pub ended_kept : (left : List (List ℕ)) → IsCrashOf written left
      → KeepsEnded image flushed_early left
  pub in_the_end : (left : List (List ℕ)) → IsCrashOf written left
      → KeepsFlushed image flushed_early flushed_early.steps.items left
  pub in_the_middle : ¬ KeepsWhatWasFlushed (disk_in written) flushed_early

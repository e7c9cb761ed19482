-- A run of one forced write, and runs that claim the same without its flush.
use Rattle.std.specs.Prelude.{true, List, [], ◌∷◌}
use Rattle.host_block.specs.Disk.{fresh}
use Rattle.host_block.specs.declared.op.Op.TheVariants as op
use Rattle.host_model.specs.declared.event.Event.{Event}
use Rattle.host_model.specs.declared.event.Event.TheVariants.{Attached, Drained, Filled, Sent}
use Rattle.host_model.specs.declared.memory.MemEntry.{MemEntry}
use Rattle.host_model.specs.declared.memory.MemEvent.TheVariants as memory
use Rattle.host_model.specs.declared.step.Step.{Step}
use Rattle.host_report.specs.declared.report.Report.{Report}
use Rattle.host_report.specs.declared.session.SessionReport.{SessionReport}
use Rattle.host_run.specs.Headline.{KeepsWhatWasForced}
use Rattle.play_law.specs.LawfulRuns.{IsLawfulOnAnyDisk}
use Rattle.run_rows.specs.Drive.{cells, image}
use Rattle.run_rows.specs.Run.{answer, by, disk_in, ended_well, in_room, partition}
use Rattle.run_rows.specs.Run.{record_of, report_with, session_on, step, written}

-- a write with the bit that forces it
abbrev pub forced_log : List Event
forced_log =
    Attached 2 1 ∷ Filled 1 0 1 7 true ∷ Sent 0 (record_of 4098 10 1 1 0) ∷ answer 10 ∷ Drained
    ∷ []

abbrev pub forced_buffer : List MemEntry
forced_buffer =
    by 2 (memory.Attach 1 2 0) ∷ by 2 (memory.Fill 1 0 1 7) ∷ by 1 (memory.Pin 0 1 1)
    ∷ by 1 (memory.Lift 0 0 1 0 (cells 7)) ∷ by 1 (memory.Done 0 1) ∷ by 2 (memory.Release 1) ∷ []

abbrev pub forced_session : SessionReport
forced_session = record (session_on 1 partition forced_log) {
  taken = in_room (ended_well ∷ []);
  memory = in_room forced_buffer;
}

-- its flush, after its one block
abbrev pub own_flush : Step
own_flush = record (step 0 op.Flush 0 []) { k = 1 }

abbrev pub forced_write : Report
forced_write =
    report_with (forced_session ∷ []) (step 0 op.Write 3 (cells 7) ∷ own_flush ∷ [])

-- it was answered 0, and made no flush
abbrev pub never_flushed : Report
never_flushed = report_with (forced_session ∷ []) (step 0 op.Write 3 (cells 7) ∷ [])

-- it made its flush before the block
abbrev pub flushed_first : Report
flushed_first =
    report_with (forced_session ∷ []) (own_flush ∷ step 0 op.Write 3 (cells 7) ∷ [])

-- the flush that was made is another session's
abbrev pub flushed_by_another : Report
flushed_by_another =
    report_with (forced_session ∷ [])
    (step 0 op.Write 3 (cells 7) ∷ record own_flush { session = 2 } ∷ [])

pub record ForcedWritesAreKept : Type 0 where
  -- The run is one that the rules allow. A disk that has the block keeps it, and one that has lost
  -- it doesn't, though no other flush was sent.
  pub lawful : IsLawfulOnAnyDisk forced_write
  pub kept : KeepsWhatWasForced (disk_in written) forced_write
  pub lost : ¬ KeepsWhatWasForced (disk_in (fresh image)) forced_write
  -- No run is lawful in which the answer came without the write's own flush after its block.
  pub never : ¬ IsLawfulOnAnyDisk never_flushed
  pub first : ¬ IsLawfulOnAnyDisk flushed_first
  pub another : ¬ IsLawfulOnAnyDisk flushed_by_another

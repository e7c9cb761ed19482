-- Runs that differ from the written one in one thing, each refused by one field of the headline.
use Rattle.std.specs.Prelude.{ℕ, true, List, [], ◌∷◌, codes}
use Rattle.host_block.specs.Disk.{fresh}
use Rattle.host_block.specs.declared.op.Op.TheVariants as op
use Rattle.host_block.specs.declared.range.Range.{Range}
use Rattle.host_model.specs.declared.event.Event.{Event}
use Rattle.host_model.specs.declared.event.Event.TheVariants.{Attached, Drained, Filled, Sent}
use Rattle.host_report.specs.declared.report.Report.{Report}
use Rattle.host_report.specs.declared.session.SessionReport.{SessionReport}
use Rattle.host_run.specs.Ending.{IsPlayed}
use Rattle.host_run.specs.Headline.{IsLawfulOn, KeepsWhatWasFlushed, OutlivesCrash}
use Rattle.play_law.specs.Runs.{IsLaidOut}
use Rattle.play_law.specs.LawfulRuns.{IsLawfulOnAnyDisk}
use Rattle.run_rows.specs.Drive.{cells, image_of}
use Rattle.run_rows.specs.Run.{answer, buffer, disk_in, flush, in_room, log, partition, read}
use Rattle.run_rows.specs.Run.{report, report_with, scene, session_on, step, steps, unsynced, write}
use Rattle.run_rows.specs.Run.{written}

-- ---- reports

-- a script that fills the page with another byte
abbrev pub another_text : List ℕ
another_text =
    codes
    "session 1\nattach 2\nfill 1 0 1 08\nwrite 10 1 0 0 1\nwait\nflush 20\nwait\nread 30 1 1 0 1\nwait\ndrain\n"

abbrev pub run : SessionReport
run = session_on 1 partition log

-- the same session with another log
abbrev pub with_log : List Event → Report
with_log events = report_with (session_on 1 partition events ∷ []) steps

-- two answers to the write
abbrev pub two_answers : List Event
two_answers =
    Attached 2 1 ∷ Filled 1 0 1 7 true ∷ Sent 0 write ∷ answer 10 ∷ answer 10 ∷ Sent 1 flush
    ∷ answer 20 ∷ Sent 2 read ∷ answer 30 ∷ Drained ∷ []

-- the answer to the read never came, though the session drained
abbrev pub no_answer : List Event
no_answer =
    Attached 2 1 ∷ Filled 1 0 1 7 true ∷ Sent 0 write ∷ answer 10 ∷ Sent 1 flush ∷ answer 20
    ∷ Sent 2 read ∷ Drained ∷ []

-- the write went to the block of the table's array
abbrev pub step_outside : Report
step_outside =
    report_with (run ∷ [])
    (step 0 op.Write 2 (cells 7) ∷ step 1 op.Flush 0 [] ∷ step 2 op.Read 3 (cells 7) ∷ [])

-- the read gave what stood there before, and the buffer got that
abbrev pub stale_session : SessionReport
stale_session = record run { memory = in_room (buffer (cells 0)) }

abbrev pub stale_read : Report
stale_read =
    report_with (stale_session ∷ [])
    (step 0 op.Write 3 (cells 7) ∷ step 1 op.Flush 0 [] ∷ step 2 op.Read 3 (cells 0) ∷ [])

-- the session is on this range
abbrev pub on_range : Range → Report
on_range range = report_with (session_on 1 range log ∷ []) steps

-- two sessions, of which the second is on the last block of the first
abbrev pub shared_block : Report
shared_block =
    report_with
    (session_on 1 partition log ∷ session_on 2 (record { first = 4; count = 1 }) log ∷ []) steps

-- two sessions on one partition, of which the second has its last block alone
abbrev pub two_ranges : Report
two_ranges =
    report_with (session_on 1 partition log
    ∷ record (session_on 2 (record { first = 4; count = 1 }) log) { part = 1 } ∷ []) steps

-- ---- the rows

pub record WrongRunsAreRefused : Type 0 where
  pub another_script : ¬ IsPlayed (scene true another_text written) report
  pub answered_twice : ¬ IsLawfulOnAnyDisk (with_log two_answers)
  pub unanswered : ¬ IsLawfulOnAnyDisk (with_log no_answer)
  pub outside : ¬ IsLawfulOnAnyDisk step_outside
  pub shares : ¬ IsLaidOut shared_block
  pub past_the_image : ¬ IsLaidOut (on_range (record { first = 3; count = 3 }))
  -- a partition is one range
  pub one_partition : ¬ IsLaidOut two_ranges
  -- whatever the image, nothing is wrong with a read of other bytes; on this image it is
  pub other_bytes : IsLawfulOnAnyDisk stale_read
  pub stale : ¬ IsLawfulOn (disk_in written) stale_read
  -- a range that the image's table doesn't give
  pub off_the_table : ¬ IsLawfulOn (disk_in written) (on_range (record { first = 4; count = 1 }))
  -- the flushed write is still pending, so a crash may lose it
  pub not_durable : ¬ OutlivesCrash (disk_in unsynced) report
  pub lost : ¬ KeepsWhatWasFlushed (disk_in unsynced) report
  -- a block that nobody wrote has other bytes
  pub beside : ¬ OutlivesCrash (disk_in (fresh (image_of (cells 7) (cells 9)))) report

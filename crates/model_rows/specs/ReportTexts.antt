-- The run of the realistic session is lawful, and has this text; and lines that a text has with
-- its steps.
use Rattle.std.specs.List.{enumerate_from}
use Rattle.host_block.specs.declared.op.Op.TheVariants as op
use Rattle.host_model.specs.declared.event.Event.TheVariants.{Filled}
use Rattle.host_model.specs.declared.memory.MemEvent.TheVariants as mem
use Rattle.host_record.specs.Response.{response_bytes}
use Rattle.host_record.specs.Status.{status_number}
use Rattle.host_record.specs.declared.response.Response.{Response}
use Rattle.host_record.specs.declared.status.Status.TheVariants as status
use Rattle.host_report.specs.Lawful.{IsLawfulRun, closing_flush}
use Rattle.host_report.specs.LogText.{answer_line, event_line}
use Rattle.host_report.specs.Played.{IsPlayedReport}
use Rattle.host_report.specs.StepText.{memory_entry_line, row_line, step_line}
use Rattle.host_report.specs.Summary.{is_good_answer, summary_text}
use Rattle.host_report.specs.Text.{report_text}
use Rattle.model_rows.specs.Parts.{accepted, cells, refused, step}
use Rattle.model_rows.specs.Reports.{entry, in_room, report, empty, image, plan}
use Rattle.std.specs.Prelude.{◌≡◌, false, [], ◌∷◌, ◌++◌, codes, true, flat_map}

-- the answer to one record, which failed
abbrev pub failed : Response
failed = record { status = status_number status.Io; reqid = 7; group = 0; count = 1 }

pub record ReportsAreAsWritten : Type 0 where
  pub lawful : IsLawfulRun image report
  pub printed : report_text report false ≡
      codes "image 128 of 512\n" ++
      codes "table primary\n" ++
      codes "session 1 part 1 first 34 count 30\n" ++
      codes "  attach 8 id 1\n" ++
      codes "  fill 1 0 4 a1 yes\n" ++
      codes "  send 0 020800000a000000030001000100000000000000000000000000000000000000\n" ++
      codes "  send 1 020800000b000000030001000100000001000000000000000100000000000000\n" ++
      codes "  send 2 020800000c000000030001000100000002000000000000000200000000000000\n" ++
      codes "  send 3 020c00000d000000030001000100000003000000000000000300000000000000\n" ++
      codes "  answer 0 reqid 13 group 3 count 4\n" ++
      codes "  send 4 0300000014000000000000000000000000000000000000000000000000000000\n" ++
      codes "  answer 0 reqid 20 group 0 count 1\n" ++
      codes "  send 5 010000001e000000000001000400000004000000000000000000000000000000\n" ++
      codes "  answer 0 reqid 30 group 0 count 1\n" ++
      codes "  show 1 4 4 yes\n" ++
      codes "    4 all a1\n" ++
      codes "    5 all a1\n" ++
      codes "    6 all a1\n" ++
      codes "    7 all a1\n" ++
      codes "  drained\n" ++
      codes "steps 10\n" ++
      codes "closing ok\n" ++
      codes "end\n"
  pub summed : summary_text report ≡
      codes "load 1 sessions 6 records\n"
      ++ codes "answers 3 ok 3 failed 0\n"
      ++ codes "steps 10\n"
      ++ codes "closing ok\n"
      ++ codes "end\n"
  pub played : IsPlayedReport (plan ∷ []) report
  pub eight_lines : report_text (record report {
    sessions = in_room (empty ∷ []);
    steps = in_room (closing_flush false ∷ []);
  }) true ≡
      codes "image 128 of 512\n" ++
      codes "table primary\n" ++
      codes "session 1 part 1 first 34 count 30\n" ++
      codes "  drained\n" ++
      codes "steps 1\n" ++
      codes "  step 0 0 0 flush 0 ok\n" ++
      codes "closing ok\n" ++
      codes "end\n"
  -- a flush is printed with block 0 whatever its step has
  pub step_lines : flat_map step_line (step 0 0 op.Write 34 (cells 0xc1) false
      ∷ step 1 0 op.Flush 9 [] true ∷ step 2 1 op.Read 35 [] true ∷ step 3 0 op.Read 35 (1 ∷ 0xff
      ∷ []) false ∷ step 4 0 op.Trim 40 [] false ∷ []) ≡
      codes "  step 1 0 0 write 34 ok all c1\n" ++
      codes "  step 1 1 0 flush 0 fault\n" ++
      codes "  step 1 2 1 read 35 fault\n" ++
      codes "  step 1 3 0 read 35 ok 01ff\n" ++
      codes "  step 1 4 0 trim 40 ok\n"
  pub row_lines :
      flat_map row_line (enumerate_from 0 (refused status.OutOfRange ∷ accepted status.Io ∷ [])) ≡
      codes "  taken 0 refused -14\n" ++
      codes "  taken 1 accepted -40\n"
  pub entry_lines : flat_map memory_entry_line (entry (mem.Attach 1 8 0) ∷ entry (mem.Pin 2 1 5)
      ∷ entry (mem.Lift 2 0 1 3 (cells 0)) ∷ entry (mem.Release 1) ∷ []) ≡
      codes "  memory attach 1 8 0\n" ++
      codes "  memory pin 2 1\n" ++
      codes "  memory lift 2 0 1 3 all 00\n" ++
      codes "  memory release 1\n"
  pub printed_with_steps : report_text report true ≡
      codes "image 128 of 512\n" ++
      codes "table primary\n" ++
      codes "session 1 part 1 first 34 count 30\n" ++
      codes "  attach 8 id 1\n" ++
      codes "  fill 1 0 4 a1 yes\n" ++
      codes "  send 0 020800000a000000030001000100000000000000000000000000000000000000\n" ++
      codes "  send 1 020800000b000000030001000100000001000000000000000100000000000000\n" ++
      codes "  send 2 020800000c000000030001000100000002000000000000000200000000000000\n" ++
      codes "  send 3 020c00000d000000030001000100000003000000000000000300000000000000\n" ++
      codes "  answer 0 reqid 13 group 3 count 4\n" ++
      codes "  send 4 0300000014000000000000000000000000000000000000000000000000000000\n" ++
      codes "  answer 0 reqid 20 group 0 count 1\n" ++
      codes "  send 5 010000001e000000000001000400000004000000000000000000000000000000\n" ++
      codes "  answer 0 reqid 30 group 0 count 1\n" ++
      codes "  show 1 4 4 yes\n" ++
      codes "    4 all a1\n" ++
      codes "    5 all a1\n" ++
      codes "    6 all a1\n" ++
      codes "    7 all a1\n" ++
      codes "  drained\n" ++
      codes "  taken 0 accepted 0\n" ++
      codes "  taken 1 accepted 0\n" ++
      codes "  taken 2 accepted 0\n" ++
      codes "  taken 3 accepted 0\n" ++
      codes "  taken 4 accepted 0\n" ++
      codes "  taken 5 accepted 0\n" ++
      codes "  memory attach 1 8 0\n" ++
      codes "  memory fill 1 0 4 a1\n" ++
      codes "  memory pin 0 1\n" ++
      codes "  memory lift 0 0 1 0 all a1\n" ++
      codes "  memory done 0 1\n" ++
      codes "  memory pin 1 1\n" ++
      codes "  memory pin 2 1\n" ++
      codes "  memory lift 2 0 1 2 all a1\n" ++
      codes "  memory done 2 1\n" ++
      codes "  memory lift 1 0 1 1 all a1\n" ++
      codes "  memory done 1 1\n" ++
      codes "  memory pin 3 1\n" ++
      codes "  memory lift 3 0 1 3 all a1\n" ++
      codes "  memory done 3 1\n" ++
      codes "  memory pin 5 1\n" ++
      codes "  memory land 5 0 1 4 all a1\n" ++
      codes "  memory land 5 1 1 5 all a1\n" ++
      codes "  memory land 5 2 1 6 all a1\n" ++
      codes "  memory land 5 3 1 7 all a1\n" ++
      codes "  memory done 5 1\n" ++
      codes "  memory show 1 4 4\n" ++
      codes "  memory release 1\n" ++
      codes "steps 10\n" ++
      codes "  step 1 0 0 write 34 ok all a1\n" ++
      codes "  step 1 2 0 write 36 ok all a1\n" ++
      codes "  step 1 1 0 write 35 ok all a1\n" ++
      codes "  step 1 3 0 write 37 ok all a1\n" ++
      codes "  step 1 4 0 flush 0 ok\n" ++
      codes "  step 1 5 0 read 34 ok all a1\n" ++
      codes "  step 1 5 1 read 35 ok all a1\n" ++
      codes "  step 1 5 2 read 36 ok all a1\n" ++
      codes "  step 1 5 3 read 37 ok all a1\n" ++
      codes "  step 0 0 0 flush 0 ok\n" ++
      codes "closing ok\n" ++
      codes "end\n"
  -- the text without its steps isn't the one with them
  pub not_with_steps :
      ¬ (report_text (record report {
        sessions = in_room (empty ∷ []);
        steps = in_room (closing_flush false ∷ []);
      }) false ≡
      report_text (record report {
        sessions = in_room (empty ∷ []);
        steps = in_room (closing_flush false ∷ []);
      }) true)
  -- a fill that wasn't done, and an answer that failed
  pub undone_fill : event_line (Filled 1 0 4 0xa1 false) ≡ codes "  fill 1 0 4 a1 no\n"
  pub failed_answer : answer_line failed ≡ codes "  answer -40 reqid 7 group 0 count 1\n"
  pub counted_as_failed : is_good_answer (response_bytes failed) ≡ false

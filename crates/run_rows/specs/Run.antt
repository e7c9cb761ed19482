-- A run that is written out: its client fills a page, writes it to the first block of its
-- partition, flushes, and reads it back.
use Rattle.std.specs.Prelude.{ℕ, Bool, true, false, List, [], ◌∷◌, ◌++◌, length, codes, None}
use Rattle.host_block.specs.Disk.{DiskState, fresh}
use Rattle.host_block.specs.Room.{WithRoom}
use Rattle.host_block.specs.declared.op.Op.{Op}
use Rattle.host_block.specs.declared.op.Op.TheVariants as op
use Rattle.host_block.specs.declared.range.Range.{Range}
use Rattle.host_gpt.specs.declared.which.Which.TheVariants.{Primary}
use Rattle.host_model.specs.declared.event.Event.{Event}
use Rattle.host_model.specs.declared.event.Event.TheVariants.{Attached, Drained, Filled, Received}
use Rattle.host_model.specs.declared.event.Event.TheVariants.{Sent}
use Rattle.host_model.specs.declared.memory.MemEntry.{MemEntry}
use Rattle.host_model.specs.declared.memory.MemEvent.{MemEvent}
use Rattle.host_model.specs.declared.memory.MemEvent.TheVariants as memory
use Rattle.host_model.specs.declared.row.TakenRow.{TakenRow}
use Rattle.host_model.specs.declared.step.Step.{Step}
use Rattle.host_model.specs.declared.verdict.Verdict.TheVariants.{Accepted}
use Rattle.host_record.specs.Request.{request_bytes}
use Rattle.host_record.specs.Response.{response_bytes}
use Rattle.host_record.specs.Status.{status_number}
use Rattle.host_record.specs.declared.finish.Finish.TheVariants.{Drain}
use Rattle.host_record.specs.declared.status.Status.TheVariants as status
use Rattle.host_report.specs.Lawful.{closing_flush}
use Rattle.host_report.specs.declared.closing.Closing.TheVariants.{Good}
use Rattle.host_report.specs.declared.report.Report.{Report}
use Rattle.host_report.specs.declared.session.SessionReport.{SessionReport}
use Rattle.host_run.specs.Scene.{PlayedDisk, Scene, played_disk, site_of}
use Rattle.host_run.specs.Seen.{DiskSeen}
use Rattle.host_run.specs.Words.{Playing}
use Rattle.host_run.specs.declared.mode.Text.TheVariants as text
use Rattle.script_model.specs.Plans.{PlannedSession}
use Rattle.script_model.specs.declared.script.ScriptLine.TheVariants.{Attach, Fill, Send, WaitAll}
use Rattle.run_rows.specs.Drive.{cells, image, image_of}

abbrev pub in_room : {A : Type 0} → List A → WithRoom A
in_room xs = record { items = xs; room = length xs }

-- ---- the script

abbrev pub script_text : List ℕ
script_text =
    codes
    "session 1\nattach 2\nfill 1 0 1 07\nwrite 10 1 0 0 1\nwait\nflush 20\nwait\nread 30 1 1 0 1\nwait\ndrain\n"

-- a record on this buffer, from this page on, and the first block of the partition
abbrev pub record_of : ℕ → ℕ → ℕ → ℕ → ℕ → List ℕ
record_of command reqid buffer blocks page =
    request_bytes (record {
      command = command;
      reqid = reqid;
      group = 0;
      vmoid = buffer;
      length = blocks;
      vmo_offset = page;
      dev_offset = 0;
    })

abbrev pub write : List ℕ
write = record_of 2 10 1 1 0

abbrev pub flush : List ℕ
flush = record_of 3 20 0 0 0

abbrev pub read : List ℕ
read = record_of 1 30 1 1 1

abbrev pub plans : List PlannedSession
plans =
    record {
      part = 1;
      lines = Attach 2 ∷ Fill 1 0 1 7 ∷ Send write ∷ WaitAll ∷ Send flush ∷ WaitAll ∷ Send read
          ∷ WaitAll ∷ [];
      finish = Drain;
    } ∷ []

-- ---- the report

-- the answer to one record that ended well
abbrev pub answer : ℕ → Event
answer reqid =
    Received (response_bytes
    (record { status = status_number status.Ok; reqid = reqid; group = 0; count = 1 }))

abbrev pub log : List Event
log =
    Attached 2 1 ∷ Filled 1 0 1 7 true ∷ Sent 0 write ∷ answer 10 ∷ Sent 1 flush ∷ answer 20
    ∷ Sent 2 read ∷ answer 30 ∷ Drained ∷ []

abbrev pub ended_well : TakenRow
ended_well = record { verdict = Accepted; outcome = status.Ok }

-- what a hand did; the client has number 2, the worker that took the records 1
abbrev pub by : ℕ → MemEvent → MemEntry
by hand e = record { hand = hand; what = e }

-- the history of the buffer, where the read gave these bytes
abbrev pub buffer : List ℕ → List MemEntry
buffer got =
    by 2 (memory.Attach 1 2 0) ∷ by 2 (memory.Fill 1 0 1 7)
    ∷ by 1 (memory.Pin 0 1 1) ∷ by 1 (memory.Lift 0 0 1 0 (cells 7)) ∷ by 1 (memory.Done 0 1)
    ∷ by 1 (memory.Pin 2 1 1) ∷ by 1 (memory.Land 2 0 1 1 got) ∷ by 1 (memory.Done 2 1)
    ∷ by 2 (memory.Release 1) ∷ []

-- the one step of record i
abbrev pub step : ℕ → Op → ℕ → List ℕ → Step
step i kind block bytes =
    record {
      hand = 1;
      session = 1;
      index = i;
      k = 0;
      op = kind;
      block = block;
      bytes = bytes;
      faulted = false;
    }

abbrev pub steps : List Step
steps = step 0 op.Write 3 (cells 7) ∷ step 1 op.Flush 0 [] ∷ step 2 op.Read 3 (cells 7) ∷ []

-- the session of this number, on the partition of this number
abbrev pub session_on : ℕ → Range → List Event → SessionReport
session_on number range events = record {
  number = number;
  part = number;
  range = range;
  log = in_room events;
  taken = in_room (ended_well ∷ ended_well ∷ ended_well ∷ []);
  memory = in_room (buffer (cells 7));
  finish = Drain;
}

-- a report of these sessions and their steps, with a closing flush that ended well
abbrev pub report_with : List SessionReport → List Step → Report
report_with sessions made = record {
  blocks = 5;
  size = 512;
  which = Primary;
  sessions = in_room sessions;
  steps = in_room (made ++ closing_flush false ∷ []);
  closing = Good;
  frames_home = 4096;
}

abbrev pub partition : Range
partition = record { first = 3; count = 2 }

abbrev pub report : Report
report = report_with (session_on 1 partition log ∷ []) steps

abbrev pub printed : List ℕ
printed =
    codes "image 5 of 512\n"
    ++ codes "table primary\n"
    ++ codes "session 1 part 1 first 3 count 2\n"
    ++ codes "  attach 2 id 1\n"
    ++ codes "  fill 1 0 1 07 yes\n"
    ++ codes "  send 0 020000000a000000000001000100000000000000000000000000000000000000\n"
    ++ codes "  answer 0 reqid 10 group 0 count 1\n"
    ++ codes "  send 1 0300000014000000000000000000000000000000000000000000000000000000\n"
    ++ codes "  answer 0 reqid 20 group 0 count 1\n"
    ++ codes "  send 2 010000001e000000000001000100000001000000000000000000000000000000\n"
    ++ codes "  answer 0 reqid 30 group 0 count 1\n"
    ++ codes "  drained\n"
    ++ codes "steps 4\n"
    ++ codes "closing ok\n"
    ++ codes "end\n"

-- ---- what is outside

-- the disk, which tells its content or doesn't, before and after its image was attached, in this
-- state
abbrev pub disk_seen : Bool → Bool → DiskState → DiskSeen
disk_seen tells attached state = record {
  shape = record
      { tells = tells; attached = attached; writable = attached; blocks = 5; size = 512 };
  image_named = λ name size. image;
  state = state;
  counts = record { faults = 0; reads = 2; writes = 1; syncs = 2 };
  never_fails = false;
}

abbrev pub playing : Playing
playing =
    record {
      name = codes "disk.img";
      size = 512;
      workers = 2;
      depth = 128;
      cut = false;
      dry = false;
      told = text.Report false;
      making = None;
    }

-- `run disk.img` on a disk that tells or doesn't, on a source of this text, which leaves the disk
-- in this state
abbrev pub scene : Bool → List ℕ → DiskState → Scene
scene tells script state = record {
  playing = playing;
  source = record { tells = true; left = script; faults = 0 };
  new_source = record { tells = true; left = []; faults = 0 };
  disk = disk_seen tells false (fresh image);
  new_disk = disk_seen tells true state;
  sink = record { tells = true; appended = []; faults = 0 };
  new_sink = record { tells = true; appended = printed; faults = 0 };
  copy = None;
}

-- the block that was written is durable, and nothing is pending
abbrev pub written : DiskState
written = fresh (image_of (cells 7) (cells 0))

-- it is pending still
abbrev pub unsynced : DiskState
unsynced = record { durable = image; pending = (3, cells 7) ∷ [] }

-- the disk that was played on, where it tells, in this state
abbrev pub disk_in : DiskState → PlayedDisk
disk_in state = played_disk (site_of (scene true script_text state))

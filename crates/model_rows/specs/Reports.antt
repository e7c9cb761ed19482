-- The report of the realistic session, and what its client was asked to do.
use Rattle.std.specs.Prelude.{ℕ, false, List, [], ◌∷◌, ◌++◌, map, length, replicate}
use Rattle.host_block.specs.Room.{WithRoom}
use Rattle.host_gpt.specs.declared.which.Which.TheVariants.{Primary}
use Rattle.host_model.specs.Session.{Session}
use Rattle.host_model.specs.declared.event.Event.TheVariants.{Drained}
use Rattle.host_model.specs.declared.memory.MemEntry.{MemEntry}
use Rattle.host_model.specs.declared.memory.MemEvent.{MemEvent}
use Rattle.host_record.specs.Request.{request_bytes}
use Rattle.host_record.specs.declared.finish.Finish.TheVariants.{Drain}
use Rattle.host_report.specs.Lawful.{closing_flush}
use Rattle.host_report.specs.Played.{LineAsk, Plan, attach, fill, send, show, wait_all}
use Rattle.host_report.specs.declared.closing.Closing.TheVariants.{Good}
use Rattle.host_report.specs.declared.report.Report.{Report}
use Rattle.host_report.specs.declared.session.SessionReport.{SessionReport}
use Rattle.model_rows.specs.Parts.{part}
use Rattle.model_rows.specs.Sessions.{realistic}

abbrev pub in_room : {A : Type 0} → List A → WithRoom A
in_room xs = record { items = xs; room = length xs }

abbrev pub entry : MemEvent → MemEntry
entry e = record { hand = 0; what = e }

-- the report of a session, of this number and on the partition of this number
abbrev pub session_report : Session → ℕ → SessionReport
session_report s number = record {
  number = number;
  part = number;
  range = s.range;
  log = in_room s.log;
  taken = in_room s.rows;
  memory = in_room (map entry s.memory);
  finish = s.finish;
}

abbrev pub report : Report
report = record {
  blocks = 128;
  size = 512;
  which = Primary;
  sessions = in_room (session_report realistic 1 ∷ []);
  steps = in_room (realistic.steps ++ closing_flush false ∷ []);
  closing = Good;
  frames_home = 4096;
}

abbrev pub image : List (List ℕ)
image = replicate 128 (replicate 512 0)

abbrev pub write : ℕ → ℕ → ℕ → LineAsk
write command reqid block =
    send (request_bytes (record {
      command = command;
      reqid = reqid;
      group = 3;
      vmoid = 1;
      length = 1;
      vmo_offset = block;
      dev_offset = block;
    }))

-- what the client was asked to do
abbrev pub plan : Plan
plan = record {
  part = 1;
  asks = attach 8
      ∷ fill 1 0 4 0xa1
      ∷ write 0x802 10 0
      ∷ write 0x802 11 1
      ∷ write 0x802 12 2
      ∷ write 0xc02 13 3
      ∷ wait_all
      ∷ send (request_bytes (record {
        command = 3;
        reqid = 20;
        group = 0;
        vmoid = 0;
        length = 0;
        vmo_offset = 0;
        dev_offset = 0;
      }))
      ∷ wait_all
      ∷ send (request_bytes (record {
        command = 1;
        reqid = 30;
        group = 0;
        vmoid = 1;
        length = 4;
        vmo_offset = 4;
        dev_offset = 0;
      }))
      ∷ wait_all
      ∷ show 1 4 4
      ∷ [];
  finish = Drain;
}

abbrev pub empty : SessionReport
empty = record {
  number = 1;
  part = 1;
  range = part;
  log = in_room (Drained ∷ []);
  taken = in_room [];
  memory = in_room [];
  finish = Drain;
}

-- What a crash leaves of a block that was written, flushed and written over.
use Rattle.std.specs.Prelude.{ℕ, false, List, [], ◌∷◌, length, take}
use Rattle.crash_law.specs.Survival.{KeepsFlushed}
use Rattle.host_block.specs.Crash.{IsCrashImage}
use Rattle.host_block.specs.Room.{WithRoom}
use Rattle.host_block.specs.declared.op.Op.{Op}
use Rattle.host_block.specs.declared.op.Op.TheVariants as op
use Rattle.host_gpt.specs.declared.which.Which.TheVariants.{Primary}
use Rattle.host_model.specs.Changes.{changes_of}
use Rattle.host_model.specs.declared.event.Event.{Event}
use Rattle.host_model.specs.declared.event.Event.TheVariants.{Attached, Drained, Received, Sent}
use Rattle.host_model.specs.declared.row.TakenRow.{TakenRow}
use Rattle.host_model.specs.declared.step.Step.{Step}
use Rattle.host_model.specs.declared.verdict.Verdict.TheVariants.{Accepted}
use Rattle.host_record.specs.Request.{request_bytes}
use Rattle.host_record.specs.Response.{response_bytes}
use Rattle.host_record.specs.Status.{status_number}
use Rattle.host_record.specs.declared.finish.Finish.TheVariants.{Drain}
use Rattle.host_record.specs.declared.status.Status.TheVariants as status
use Rattle.host_report.specs.declared.closing.Closing.TheVariants.{Cut}
use Rattle.host_report.specs.declared.report.Report.{Report}
use Rattle.host_report.specs.declared.session.SessionReport.{SessionReport}

abbrev pub in_room : {A : Type 0} → List A → WithRoom A
in_room xs = record { items = xs; room = length xs }

-- ---- a client that writes block 0, waits, flushes, waits, and writes block 0 again

abbrev pub sent : ℕ → ℕ → ℕ → Event
sent i command blocks =
    Sent i (request_bytes (record {
      command = command;
      reqid = i;
      group = 0;
      vmoid = 1;
      length = blocks;
      vmo_offset = 0;
      dev_offset = 0;
    }))

abbrev pub done : ℕ → Event
done i =
    Received (response_bytes
    (record { status = status_number status.Ok; reqid = i; group = 0; count = 1 }))

abbrev pub log : List Event
log = Attached 1 1 ∷ sent 0 2 1 ∷ done 0 ∷ sent 1 3 0 ∷ done 1 ∷ sent 2 2 1 ∷ done 2 ∷ Drained ∷ []

abbrev pub ended_well : TakenRow
ended_well = record { verdict = Accepted; outcome = status.Ok }

abbrev pub session : SessionReport
session = record {
  number = 1;
  part = 1;
  range = record { first = 0; count = 2 };
  log = in_room log;
  taken = in_room (ended_well ∷ ended_well ∷ ended_well ∷ []);
  memory = in_room [];
  finish = Drain;
}

-- ---- the device: blocks of one byte, 0 and 7; the first write is of byte 1, the second of byte 2

abbrev pub image : List (List ℕ)
image = (0 ∷ []) ∷ (7 ∷ []) ∷ []

abbrev pub step : ℕ → Op → List ℕ → Step
step i kind bytes =
    record {
      hand = 0;
      session = 1;
      index = i;
      k = 0;
      op = kind;
      block = 0;
      bytes = bytes;
      faulted = false;
    }

abbrev pub steps : List Step
steps = step 0 op.Write (1 ∷ []) ∷ step 1 op.Flush [] ∷ step 2 op.Write (2 ∷ []) ∷ []

abbrev pub report : Report
report = record {
  blocks = 2;
  size = 1;
  which = Primary;
  sessions = in_room (session ∷ []);
  steps = in_room steps;
  closing = Cut;
  frames_home = 4096;
}

-- ---- what a crash leaves: one byte in block 0, and block 1 as it was

abbrev pub left : ℕ → List (List ℕ)
left byte = (byte ∷ []) ∷ (7 ∷ []) ∷ []

pub record CrashKeepsFlushed : Type 0 where
  -- the flushed write, or the one after it
  pub flushed : IsCrashImage image (changes_of steps) (left 1)
  pub later : IsCrashImage image (changes_of steps) (left 2)
  -- neither what stood there before nor anything else, and what nobody wrote is as it was
  pub not_before : ¬ IsCrashImage image (changes_of steps) (left 0)
  pub not_else : ¬ IsCrashImage image (changes_of steps) (left 3)
  pub not_beside : ¬ IsCrashImage image (changes_of steps) ((1 ∷ []) ∷ (8 ∷ []) ∷ [])
  -- by the clause on what was flushed the first write has survived in neither of these two
  pub not_lost : ¬ KeepsFlushed image report steps (left 0)
  pub not_made_up : ¬ KeepsFlushed image report steps (left 3)
  -- before the flush's step nothing is promised; after it the write is, and the later one isn't
  -- made yet
  pub not_yet : (after : List (List ℕ)) → KeepsFlushed image report (take 1 steps) after
  pub not_lost_then : ¬ KeepsFlushed image report (take 2 steps) (left 0)
  pub not_later_then : ¬ KeepsFlushed image report (take 2 steps) (left 2)

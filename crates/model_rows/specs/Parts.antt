-- What the sessions of these rows are made of.
use Rattle.std.specs.Prelude.{ℕ, Bool, List, replicate}
use Rattle.host_block.specs.declared.op.Op.{Op}
use Rattle.host_block.specs.declared.range.Range.{Range}
use Rattle.host_model.specs.declared.event.Event.{Event}
use Rattle.host_model.specs.declared.event.Event.TheVariants.{Sent, Received}
use Rattle.host_model.specs.declared.row.TakenRow.{TakenRow}
use Rattle.host_model.specs.declared.step.Step.{Step}
use Rattle.host_model.specs.declared.verdict.Verdict.TheVariants.{Accepted, Refused}
use Rattle.host_record.specs.Request.{request_bytes}
use Rattle.host_record.specs.Response.{response_bytes}
use Rattle.host_record.specs.Status.{status_number}
use Rattle.host_record.specs.declared.status.Status.{Status}

abbrev pub part : Range
part = record { first = 34; count = 30 }

-- a record sent: command, reqid, group, buffer, length, and the two offsets
abbrev pub send : ℕ → ℕ → ℕ → ℕ → ℕ → ℕ → ℕ → ℕ → Event
send i command reqid group vmoid len buf dev =
    Sent i (request_bytes (record {
      command = command;
      reqid = reqid;
      group = group;
      vmoid = vmoid;
      length = len;
      vmo_offset = buf;
      dev_offset = dev;
    }))

-- an answer received
abbrev pub got : Status → ℕ → ℕ → ℕ → Event
got s reqid group count =
    Received (response_bytes (record {
      status = status_number s;
      reqid = reqid;
      group = group;
      count = count;
    }))

abbrev pub accepted : Status → TakenRow
accepted s = record { verdict = Accepted; outcome = s }

abbrev pub refused : Status → TakenRow
refused s = record { verdict = Refused s; outcome = s }

abbrev pub cells : ℕ → List ℕ
cells b = replicate 4 b

-- a step of session 1
abbrev pub step : ℕ → ℕ → Op → ℕ → List ℕ → Bool → Step
step i k op block bytes faulted = record {
  hand = 0;
  session = 1;
  index = i;
  k = k;
  op = op;
  block = block;
  bytes = bytes;
  faulted = faulted;
}

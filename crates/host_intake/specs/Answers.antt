-- The answers that the end of a record makes due.
use Rattle.std.specs.Prelude.{ℕ, Option, Some, None, option_map}
use Rattle.host_record.specs.declared.request.Request.{Request}
use Rattle.host_record.specs.Response.{response_bytes}
use Rattle.host_record.specs.Status.{status_number}
use Rattle.host_group.specs.declared.group_end.GroupEnd.{GroupEnd}
use Rattle.host_group.specs.declared.seat.CellSeat.{CellSeat}
use Rattle.host_group.specs.declared.view.Row.{Row}
use Rattle.host_group.specs.Ends.{end_of}
use Rattle.host_group.specs.Seats.{row}
use Rattle.host_rings.specs.declared.slip.Slip.{Slip}
use Rattle.host_intake.specs.declared.entry.RecordEnd.{RecordEnd}

-- the answer to a lone record that ended so
abbrev pub lone_slip : Request → ℕ → RecordEnd → Slip
lone_slip r i end = record {
  index = i;
  bytes = response_bytes
      (record { status = status_number end.outcome; reqid = r.reqid; group = 0; count = 1 });
  device_front = end.device_front;
  memory_front = end.memory_front;
}

-- the answer to an instance of group g that ended so
abbrev pub group_slip : ℕ → GroupEnd → Slip
group_slip g e = record {
  index = e.index;
  bytes = response_bytes
      (record { status = status_number e.status; reqid = e.reqid; group = g; count = e.count });
  device_front = e.device_front;
  memory_front = e.memory_front;
}

-- the answer that a member made due by settling, if it ended its instance
abbrev pub row_slip : Row → Option Slip
row_slip q = option_map (group_slip q.member.number) (end_of q)

-- the answer that a record makes due as it ends; a member comes with its right
abbrev pub answer_owed : Request → ℕ → RecordEnd → Option CellSeat → Option Slip
answer_owed r i end None = Some (lone_slip r i end)
answer_owed r i end (Some right) = row_slip (row right)

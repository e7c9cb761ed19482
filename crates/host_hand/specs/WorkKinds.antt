-- What is to be done for a record that was accepted, by what it asks for.
use Rattle.std.specs.Prelude.{Option, Some, None, option_map}
use Rattle.host_frames.specs.Seats.{SeenPages}
use Rattle.host_group.specs.declared.seat.CellSeat.{CellSeat}
use Rattle.host_rings.specs.declared.envelope.Envelope.{Envelope}
use Rattle.host_record.specs.declared.opcode.Opcode.{Opcode}
use Rattle.host_record.specs.declared.opcode.Opcode.TheVariants as opcode
use Rattle.host_hand.specs.declared.next.Next.{Next}
use Rattle.host_hand.specs.declared.next.Next.TheVariants as next
use Rattle.host_hand.specs.declared.work.Work.{Work}
use Rattle.host_hand.specs.declared.work.Work.TheVariants as work

abbrev pub work_for : Option Opcode → Option SeenPages → Option Work
work_for (Some opcode.Read) pages = Some work.Read
work_for (Some opcode.Write) pages = Some work.Write
work_for (Some opcode.Trim) pages = Some work.Trim
work_for (Some opcode.Flush) pages = Some work.Flush
work_for (Some opcode.Close) pages = option_map work.Close pages
work_for None pages = None

-- the record in this envelope is taken to do this, or waits where there is nothing to do yet
abbrev pub next_for : Envelope → Option CellSeat → Option Work → Next
next_for envelope right None = next.Waits
next_for envelope right (Some work) =
    next.Took (record { envelope = envelope; work = work; right = right })

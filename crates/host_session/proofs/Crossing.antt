-- Both ends of a session may cross threads.
use denote.Param.Send.{IsSend, IsSync, AllSend, sendable, recorded_send, struct_send}
use denote.Struct.Declared.{shape}
use denote.Struct.Struct.{Struct}
use Rattle.std.proofs.Crossing.{crosses}
use Rattle.host_frames.specs.contracts.pages.Pages as pages
use Rattle.host_frames.specs.contracts.pool.Pool as pool
use Rattle.host_intake.specs.contracts.entry.IntakeEntry as intake_entry
use Rattle.host_intake.specs.contracts.intake.Intake as intake
use Rattle.host_intake.specs.contracts.ledger.Ledger as ledger
use Rattle.host_intake.specs.contracts.waiting.Waiting as waiting
use Rattle.host_memory.specs.contracts.buffer.Buffer as buffer
use Rattle.host_memory.specs.contracts.memory.Memory as memory
use Rattle.host_model.specs.contracts.event.Event as event
use Rattle.host_model.specs.contracts.memory.MemEntry as mem_entry
use Rattle.host_model.specs.contracts.row.TakenRow as row
use Rattle.host_rings.specs.contracts.sender.Sender as sender
use Rattle.host_rings.specs.contracts.slip.Slip as slip
use Rattle.host_rings.specs.contracts.slip_sender.SlipSender as slip_sender
use Rattle.host_rings.specs.contracts.slip_taker.SlipTaker as slip_taker
use Rattle.host_rings.specs.contracts.taker.Taker as taker
use Rattle.host_session.specs.contracts.client.ClientEnd as client
use Rattle.host_session.specs.contracts.client.ClientEnd.TheInside as inside
use Rattle.host_session.specs.contracts.hand.SessionHand as hand
use Rattle.host_session.specs.contracts.room.ClosingRoom as room
use Rattle.host_session.specs.contracts.shared.SessionShared as session_shared
use Rattle.host_log.proofs.Crossing.{ghost_send}
use Rattle.host_turn.proofs.Crossing.{badge_send, lease_send, lease_sync, table_seat_send, table_send, table_sync}

-- ---- ends of the rings

pub taker_send : IsSend taker.the_row
taker_send = search (sendable, crosses, table_seat_send, table_send, table_sync, lease_send, lease_sync) depth 40

pub sender_send : IsSend sender.the_row
sender_send = search (sendable, crosses, table_seat_send, table_send, table_sync, lease_send, lease_sync) depth 40

pub slip_taker_send : IsSend slip_taker.the_row
slip_taker_send = search (sendable, crosses, table_seat_send, table_send, table_sync, lease_send, lease_sync) depth 40

pub slip_sender_send : IsSend slip_sender.the_row
slip_sender_send = search (sendable, crosses, table_seat_send, table_send, table_sync, lease_send, lease_sync) depth 40

-- ---- buffers and intake

mem_entry_send : IsSend mem_entry.the_row
mem_entry_send = search (sendable, crosses) depth 30 fits 10000

pages_send : IsSend pages.the_row
pages_send = search (sendable, crosses, badge_send) depth 30 fits 10000

buffer_send : IsSend buffer.the_row
buffer_send = search (sendable, crosses, pages_send) depth 30 fits 10000

pub memory_send : IsSend memory.the_row
memory_send = search (sendable, crosses, mem_entry_send, buffer_send, ghost_send) depth 40 fits 10000

intake_entry_send : IsSend intake_entry.the_row
intake_entry_send = search (sendable, crosses) depth 30 fits 10000

row_send : IsSend row.the_row
row_send = search (sendable, crosses) depth 30 fits 10000

slip_send : IsSend slip.the_row
slip_send = search (sendable, crosses) depth 30 fits 10000

ledger_send : IsSend ledger.the_row
ledger_send = search (sendable, crosses, intake_entry_send, row_send, slip_send, ghost_send) depth 40 fits 10000

waiting_send : IsSend waiting.the_row
waiting_send = search (sendable, crosses, table_seat_send) depth 30 fits 10000

pub intake_send : IsSend intake.the_row
intake_send = search (sendable, crosses, table_seat_send, memory_send, taker_send, ledger_send, waiting_send) depth 40 fits 10000

-- ---- both ends

pub session_hand_send : IsSend hand.the_row
session_hand_send =
    let T = hand.the_type in
    let i = intake_send in
    let m = memory_send in
    let all : AllSend (shape T).fields = (search (sendable, table_seat_send) depth 20, (search (sendable, table_seat_send) depth 20, (slip_sender_send, tt))) in
    recorded_send (Struct (shape T)) T.D T.to T.to_one (struct_send (shape T) all)

event_send : IsSend event.the_row
event_send = search (sendable, crosses) depth 30 fits 10000

closing_send : IsSend (room.the_field).row
closing_send = search (sendable, crosses, table_seat_send, intake_send, memory_send, slip_sender_send) depth 40 fits 10000

client_inside_send : IsSend inside.the_row
client_inside_send =
    let T = inside.the_type in
    let all : AllSend (shape T).fields = (search (sendable, crosses) depth 30 fits 10000, (search (sendable, crosses) depth 30 fits 10000, (search (sendable, crosses) depth 30 fits 10000, (search (sendable, crosses) depth 30 fits 10000, (search (sendable, crosses) depth 30 fits 10000, (search (sendable, crosses, event_send, ghost_send) depth 40 fits 10000, (search (sendable, crosses) depth 30 fits 10000, (search (sendable, crosses) depth 30 fits 10000, (search (sendable, crosses) depth 30 fits 10000, (search (sendable, crosses) depth 30 fits 10000, (search (sendable, crosses) depth 30 fits 10000, (search (sendable, crosses) depth 30 fits 10000, (search (sendable, crosses) depth 30 fits 10000, (search (sendable, table_seat_send, intake_send) depth 20, (search (sendable, table_seat_send, memory_send) depth 20, (sender_send, (slip_taker_send, (closing_send, tt)))))))))))))))))) in
    recorded_send (Struct (shape T)) T.D T.to T.to_one (struct_send (shape T) all)

pub client_send : IsSend client.the_row
client_send = search (sendable, client_inside_send) depth 10

-- ---- what threads share

pub session_shared_sync : IsSync session_shared.the_row
session_shared_sync = let i = intake_send in let m = memory_send in search (sendable, crosses, table_sync, lease_sync) depth 40

pub pool_sync : IsSync pool.the_row
pool_sync = search (sendable, crosses, table_sync, lease_sync) depth 40

-- Those that take part may cross threads.
use denote.RattleType.{RattleType}
use denote.Param.Send.{IsSend, IsSync, AllSend, recorded_send, sendable, struct_send}
use denote.Struct.Declared.{shape}
use denote.Struct.Struct.{Struct}
use Rattle.std.proofs.Crossing.{crosses}
use Rattle.host_device.proofs.Crossing.{device_send}
use Rattle.host_io.specs.declared.disk.Disk as disk
use Rattle.host_log.proofs.Crossing.{ghost_send}
use Rattle.host_model.specs.contracts.event.Event as event
use Rattle.host_model.specs.contracts.memory.MemEntry as mem_entry
use Rattle.host_model.specs.contracts.row.TakenRow as row
use Rattle.host_report.specs.contracts.session.SessionReport as report
use Rattle.host_session.proofs.Crossing.{client_send, session_hand_send}
use Rattle.host_turn.proofs.Crossing.{table_seat_send}
use Rattle.host_worker.specs.contracts.hand.Hand as hand
use Rattle.host_worker.specs.contracts.room.ClosingRoom as room
use Rattle.host_play.specs.contracts.actor.Actor as actor
use Rattle.host_play.specs.contracts.actor.Client as client
use Rattle.script_model.specs.contracts.script.Script as script

event_send : IsSend event.the_row
event_send = search (sendable, crosses) depth 30 fits 10000

mem_entry_send : IsSend mem_entry.the_row
mem_entry_send = search (sendable, crosses) depth 30 fits 10000

row_send : IsSend row.the_row
row_send = search (sendable, crosses) depth 30 fits 10000

report_send : IsSend report.the_row
report_send = search (sendable, crosses, event_send, mem_entry_send, row_send) depth 40 fits 10000

room_send : (D : RattleType) (g : disk.Ghosts D.Denot) → IsSend D → IsSend (room.the_row D g)
room_send D g s =
    let T = room.the_type D g in
    let d = device_send D g s in
    let all : AllSend (shape T).fields = (search (sendable, crosses, table_seat_send) depth 20, (search (sendable, crosses, table_seat_send) depth 20, (search (sendable, crosses, report_send, ghost_send) depth 40 fits 10000, tt))) in
    recorded_send (Struct (shape T)) T.D T.to T.to_one (struct_send (shape T) all)

-- a hand as a field
hand_field : (D : RattleType) (g : disk.Ghosts D.Denot) → IsSend D → IsSend (hand.the_field D g).row
hand_field D g s =
    let T = hand.the_type D g in
    let d = device_send D g s in
    let r = room_send D g s in
    let all : AllSend (shape T).fields = (search sendable depth 5, (search (sendable, table_seat_send) depth 15, (search (sendable, crosses, table_seat_send) depth 20, (search (sendable, crosses, session_hand_send) depth 10, (search sendable depth 5, (search sendable depth 10, tt)))))) in
    struct_send (shape T) all

client_row_send : IsSend client.the_row
client_row_send = let c = client_send in search (sendable, crosses) depth 40

pub actor_send : (D : RattleType) (g : disk.Ghosts D.Denot) → IsSend D → IsSend (actor.the_row D g)
actor_send D g s =
    let T = actor.the_type D g in
    let c = client_row_send in
    let all : AllSend (shape T).fields = (hand_field D g s, (search (sendable, crosses) depth 30, tt)) in
    recorded_send (Struct (shape T)) T.D T.to T.to_one (struct_send (shape T) all)

-- threads may share a script
pub script_sync : IsSync script.the_row
script_sync = search (sendable, crosses) depth 40 fits 10000

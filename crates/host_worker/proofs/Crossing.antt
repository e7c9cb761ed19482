-- Where the disk may cross threads, a hand may, and threads may share a server.
use denote.RattleType.{RattleType}
use denote.Param.Send.{IsSend, IsSync, AllSync, sendable, recorded_sync, struct_sync}
use denote.Struct.Declared.{shape}
use denote.Struct.Struct.{Struct}
use Rattle.std.proofs.Crossing.{crosses}
use Rattle.host_device.proofs.Crossing.{device_send}
use Rattle.host_io.specs.declared.disk.Disk as disk
use Rattle.host_rings.specs.contracts.slip_sender.SlipSender as slip_sender
use Rattle.host_session.proofs.Crossing.{intake_send, memory_send, session_shared_sync}
use Rattle.host_session.specs.contracts.hand.SessionHand as part
use Rattle.host_turn.proofs.Crossing.{lease_send, lease_sync, table_seat_sync, table_send, table_sync}
use Rattle.host_worker.specs.contracts.server.Server as server
use Rattle.host_worker.specs.contracts.session.Session as session

slip_sender_sync : IsSync slip_sender.the_row
slip_sender_sync = search (sendable, crosses, table_seat_sync, table_send, table_sync, lease_send, lease_sync) depth 40 fits 10000

part_sync : IsSync part.the_row
part_sync =
    let T = part.the_type in
    let i = intake_send in
    let m = memory_send in
    let all : AllSync (shape T).fields = (search (sendable, table_seat_sync) depth 20, (search (sendable, table_seat_sync) depth 20, (slip_sender_sync, tt))) in
    recorded_sync (Struct (shape T)) T.D T.to T.to_one (struct_sync (shape T) all)

session_sync : IsSync session.the_row
session_sync = search (sendable, crosses, part_sync, session_shared_sync) depth 30 fits 10000

pub server_sync : (D : RattleType) (g : disk.Ghosts D.Denot) → IsSend D → IsSync (server.the_row D g)
server_sync D g s =
    let T = server.the_type D g in
    let d = device_send D g s in
    let all : AllSync (shape T).fields = (search (sendable, crosses, table_sync, lease_sync) depth 40, (search (sendable, crosses, table_sync, lease_sync) depth 40, (search (sendable, crosses, session_sync) depth 10, (search sendable depth 5, tt)))) in
    recorded_sync (Struct (shape T)) T.D T.to T.to_one (struct_sync (shape T) all)

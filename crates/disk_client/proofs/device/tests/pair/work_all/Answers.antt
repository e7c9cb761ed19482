use contract.Lifetimes.{Lfts}
use denote.Param.{param}
use denote.Param.Send.{IsSend, IsSync, AllSend, sendable, recorded_send, struct_send}
use denote.RattleType.{RattleType}
use denote.Struct.Declared.{shape}
use denote.Struct.Struct.{Struct}
use Rattle.std.proofs.Crossing.{crosses}
use Rattle.host_io.specs.declared.disk.Disk as disk
use Rattle.host_device.proofs.Crossing.{device_send}
use Rattle.host_turn.proofs.Crossing.{table_seat_send, table_sync, lease_sync}
use Rattle.disk_client.proofs.device.tests.pair.work_all.Given as given
use Rattle.disk_client.proofs.device.tests.pair.work_all.Lts as lts
use Rattle.disk_client.proofs.device.tests.pair.work_all.Goals as goal
use Rattle.disk_client.specs.contracts.device.tests.hand.Hand as hand
use Rattle.disk_client.specs.contracts.device.tests.pair.work_all as work_all

-- A hand may cross threads where the disk may.
hand_row_send : (D : RattleType) (g : disk.Ghosts D.Denot) → IsSend D → IsSend (hand.the_row D g)
hand_row_send D g s =
    let T = hand.the_type D g in
    let d = device_send D g s in
    let all : AllSend (shape T).fields = (search (sendable, table_seat_send) depth 15, (search sendable depth 10, tt)) in
    recorded_send (Struct (shape T)) T.D T.to T.to_one (struct_send (shape T) all)

hand_send : (g : given.Over) (κs : Lfts 11) → IsSend (work_all.D-row g.row.D g.row.R)
    → IsSend (param 1 (lts.arg-0-1 g.row.D g.row.R g.D.laws g.R.laws g.D.Disk g.D.Disk-dict g.R.Threads g.R.Threads-dict g.R.Wait g.R.Wait-dict g.D.Destruct-dict κs))
hand_send g κs s = search (sendable, hand_row_send) depth 15

seat_send : (g : given.Over) (κs : Lfts 11) → IsSend (work_all.D-row g.row.D g.row.R)
    → IsSend (param 2 (lts.arg-0-2 g.row.D g.row.R g.D.laws g.R.laws g.D.Disk g.D.Disk-dict g.R.Threads g.R.Threads-dict g.R.Wait g.R.Wait-dict g.D.Destruct-dict κs))
seat_send g κs s = search (sendable, device_send, table_seat_send) depth 20

work_sync : (g : given.Over) (κs : Lfts 11) → IsSend (work_all.D-row g.row.D g.row.R) → IsSync (work_all.R-row g.row.D g.row.R)
    → IsSync (param 4 (lts.arg-0-4 g.row.D g.row.R g.D.laws g.R.laws g.D.Disk g.D.Disk-dict g.R.Threads g.R.Threads-dict g.R.Wait g.R.Wait-dict g.D.Destruct-dict κs))
work_sync g κs s y = search (sendable, crosses, device_send, table_sync, lease_sync) depth 40

pub map_vec-requires-send-J : goal.map_vec-requires-send-J
map_vec-requires-send-J g c κs within = hand_send g κs c.type_bounds.send-D

pub map_vec-requires-send-X : goal.map_vec-requires-send-X
map_vec-requires-send-X g c κs within = seat_send g κs c.type_bounds.send-D

pub map_vec-requires-sync-F : goal.map_vec-requires-sync-F
map_vec-requires-sync-F g c κs within = work_sync g κs c.type_bounds.send-D c.type_bounds.sync-R

-- A device may cross threads where its disk may.
use denote.RattleType.{RattleType}
use denote.Param.Send.{IsSend, AllSend, sendable, recorded_send, struct_send}
use denote.Struct.Declared.{shape}
use denote.Struct.Struct.{Struct}
use Rattle.std.proofs.Crossing.{crosses}
use Rattle.std.proofs.MapsCrossing.{crosses as maps}
use Rattle.lru.proofs.Crosses.{List-send, Deed-send, KeyRef-send}
use Rattle.host_model.specs.contracts.step.Step as step
use Rattle.host_log.proofs.Crossing.{ghost_send}
use Rattle.host_io.specs.declared.disk.Disk as disk
use Rattle.host_cache.specs.contracts.cache.Cache as cache
use Rattle.host_device.specs.contracts.device.Device as device

-- a cache as a field
pub cache_field : (D : RattleType) (g : disk.Ghosts D.Denot) → IsSend D → IsSend (cache.the_field D g).row
cache_field D g s = search (sendable, crosses, maps, List-send, Deed-send, KeyRef-send) depth 30

pub step_send : IsSend step.the_row
step_send = search (sendable, crosses) depth 30

pub device_send : (D : RattleType) (g : disk.Ghosts D.Denot) → IsSend D → IsSend (device.the_row D g)
device_send D g s =
    let T = device.the_type D g in
    let all : AllSend (shape T).fields = (search sendable depth 20, (cache_field D g s, (search (sendable, crosses, step_send, ghost_send) depth 40, (search (sendable, crosses) depth 20, tt)))) in
    recorded_send (Struct (shape T)) T.D T.to T.to_one (struct_send (shape T) all)

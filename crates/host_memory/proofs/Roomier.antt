-- What holds of a memory at all times holds again once there is room for more lifts and landings.
use Rattle.std.proofs.Common.{◌≡◌, ℕ, ◌+◌, ◌-◌, ◌≤◌, max, List, length, arith}
use Rattle.atomic_table.specs.Seated.{TableId}
use Rattle.host_log.specs.{SwitchedLog}
use Rattle.host_model.specs.{MemEntry}
use Rattle.host_memory.specs.{Buffer, MemoryLimits, IsMemoryKept}

module _ (limits : MemoryLimits) (pool : TableId × ℕ) (l : SwitchedLog MemEntry) (moves left : ℕ) (bs : List Buffer) (k : IsMemoryKept limits pool l moves left bs) where
  pub moves_fit : moves ≤ l.room - length l.items
  moves_fit = let used = k.room.used in let pinned = k.room.pinned in let room = k.room.room in omega arith

  pub kept_roomier : (n wanted : ℕ) → wanted ≡ l.room - length l.items - moves + n → IsMemoryKept limits pool (record l { room = max l.room (length l.items + wanted) }) n left bs
  kept_roomier n wanted is = let fit = moves_fit in let enough = k.room.room in record {
    told = k.told;
    sound = k.sound;
    room = record { used = k.room.used; pinned = k.room.pinned; ids = k.room.ids; counted = k.room.counted; room = omega arith };
    numbered = k.numbered;
  }

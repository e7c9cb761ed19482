-- What contracts see of a memory.
use Rattle.std.specs.Prelude.{ℕ, ◌+◌, List, map}
use Rattle.host_model.specs.declared.memory.MemEntry.{MemEntry}
use Rattle.host_model.specs.declared.memory.MemEvent.{MemEvent}
use Rattle.host_memory.specs.declared.limits.MemoryPlan.{MemoryPlan}

pub record MemoryState : Type 0 where
  -- what it was made with
  pub plan : MemoryPlan
  -- what was done, and by whom, the oldest first
  pub entries : List MemEntry
  -- how many lifts and landings still fit
  pub moves : ℕ

-- what was done
abbrev pub events : List MemEntry → List MemEvent
events xs = map (λ e. e.what) xs

abbrev pub history : MemoryState → List MemEvent
history m = events m.entries

-- the bytes of a page
abbrev pub block_size_of : MemoryState → ℕ
block_size_of m = m.plan.limits.size

-- the numbers of the client and of the admissions
abbrev pub client_of : MemoryState → ℕ
client_of m = m.plan.limits.hands

abbrev pub admissions_of : MemoryState → ℕ
admissions_of m = m.plan.limits.hands + 1

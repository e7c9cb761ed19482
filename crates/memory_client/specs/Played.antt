-- What a player knows of its memory: the numbers that it was made with, and the pages that an entry
-- tells of.
use Rattle.std.specs.Prelude.{◌≡◌, ℕ, Bool, false, nat_lt}
use Rattle.host_model.specs.declared.memory.MemEvent.{MemEvent}
use Rattle.host_model.specs.declared.memory.MemEvent.TheVariants.{Attach}
use Rattle.host_memory.specs.declared.limits.MemoryLimits.{MemoryLimits}

pub record IsPlayed (l : MemoryLimits) : Type 0 where
  pub size : l.size ≡ 512
  pub ids : l.ids ≡ 1000
  pub room : l.room ≡ 6000
  pub records : l.records ≡ 2000
  pub hands : l.hands ≡ 4

-- the entry gives a buffer with this block
abbrev pub has_page : ℕ → MemEvent → Bool
has_page block (Attach id pages from) = nat_lt block pages
has_page block _ = false

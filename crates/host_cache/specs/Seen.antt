-- What clauses see of a cache.
use Rattle.std.specs.Prelude.{◌≡◌, ℕ, ◌<◌, ◌==◌, if◌then◌else◌, IsTrue, List}
use Rattle.host_block.specs.Disk.{DiskCall, Outcome}
use Rattle.host_io.specs.Causes.{Rose}
use Rattle.host_io.specs.Disks.{Shape}
use Rattle.host_io.specs.declared.disk.Disk as disk
use Rattle.host_cache.specs.Held.{Held, cached}
use Rattle.host_cache.specs.Calls.{Rule}
use Rattle.host_cache.specs.Made.{Made}
use Rattle.host_cache.specs.declared.cache.Cache.{Cache}

module _ {D : Type 0} {g : disk.Ghosts D} where
  abbrev pub disk_of : Cache D g → D
  disk_of cache = cache.disk

  abbrev pub shape_of : Cache D g → Shape
  shape_of cache = g.shape cache.disk

  abbrev pub held_of : Cache D g → Held
  held_of cache = record { lines = cache.lines.entries; victim = cache.victim }

  -- the content of block b, where the disk tells
  abbrev pub content_of : Cache D g → ℕ → List ℕ
  content_of cache b = cached (held_of cache) (g.state cache.disk) b

  -- no block has another content
  abbrev pub HasSameContent : Cache D g → Cache D g → Type 0
  HasSameContent old new =
      IsTrue (shape_of old).tells → (k : ℕ) → k < (shape_of old).blocks
      → content_of new k ≡ content_of old k

  -- block b has these bytes, and no other block has another content
  abbrev pub HasWritten : ℕ → List ℕ → Cache D g → Cache D g → Type 0
  HasWritten b bytes old new =
      IsTrue (shape_of old).tells → (k : ℕ) → k < (shape_of old).blocks
      → content_of new k ≡ (if b == k then bytes else content_of old k)

  -- the disk's count of faults rose
  abbrev pub HasFaulted : Cache D g → Cache D g → Type 0
  HasFaulted old new = Rose (g.counts old.disk).faults (g.counts new.disk).faults

  -- The cache kept to this rule, and its disk was called so and no more.
  pub record Runs (rule : Rule) (old : Cache D g) (outcome : Outcome) (new : Cache D g)
      : Type 0 where
    pub calls : List DiskCall
    pub ruled : rule (held_of old) calls outcome (held_of new)
    pub made : Made g calls (disk_of old) (disk_of new)

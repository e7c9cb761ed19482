-- That a disk was called so, and no more.
use Rattle.std.specs.Prelude.{◌≡◌, ◌≤◌, IsTrue, List, [], ◌∷◌}
use Rattle.host_block.specs.Disk.{DiskCall, read, write, sync, LeadAll}
use Rattle.host_io.specs.Disks.{read_counted, write_counted, sync_counted}
use Rattle.host_io.specs.declared.counts.Counts.{Counts}
use Rattle.host_io.specs.declared.disk.Disk as disk

-- the numbers of a disk after these calls, but for its faults
abbrev pub counted : List DiskCall → Counts → Counts
counted [] counts = counts
counted (read b outcome ∷ calls) counts = counted calls (read_counted counts)
counted (write b bytes outcome ∷ calls) counts = counted calls (write_counted counts)
counted (sync outcome ∷ calls) counts = counted calls (sync_counted counts)

-- These calls, and no other, led from the disk as it was to the disk as it is.
pub record Made {D : Type 0} (g : disk.Ghosts D) (calls : List DiskCall) (old new : D)
    : Type 0 where
  pub shape : g.shape new ≡ g.shape old
  pub opening : g.opening new ≡ g.opening old
  pub state : IsTrue (g.shape old).tells → LeadAll calls (g.state old) (g.state new)
  pub reads : (g.counts new).reads ≡ (counted calls (g.counts old)).reads
  pub writes : (g.counts new).writes ≡ (counted calls (g.counts old)).writes
  pub syncs : (g.counts new).syncs ≡ (counted calls (g.counts old)).syncs
  pub later : (g.counts old).faults ≤ (g.counts new).faults
  pub still : IsTrue (g.never_fails old) → IsTrue (g.never_fails new)
  pub no_fault : IsTrue (g.never_fails old) → (g.counts new).faults ≡ (g.counts old).faults

-- What a file as a disk does, told by what its raw file answered.
use Rattle.std.specs.Prelude.{◌≡◌, ◌⊎◌, ℕ, ◌+◌, ◌*◌, ◌/◌, ◌<◌, ◌≤◌, Bool, true, false, not, ◌&&◌}
use Rattle.std.specs.Prelude.{◌||◌, IsTrue, List, [], Option, Some, None, Result, Ok, Err, OnOk}
use Rattle.std.specs.Prelude.{OnErr, IsOk, IsErr, is_ok, is_err, if◌then◌else◌}
use Rattle.host_block.specs.Disk.{DiskState}
use Rattle.host_file.specs.declared.file_disk.FileDisk.{FileDisk}
use Rattle.host_file.specs.declared.raw_file.OpenError.{OpenError}
use Rattle.host_file.specs.declared.raw_file.OpenError.TheVariants.{Held, Failed}
use Rattle.host_io.specs.Disks.{Shape, no_counts}
use Rattle.host_io.specs.declared.counts.Counts.{Counts}
use Rattle.host_io.specs.declared.disk.DiskError.{DiskError}

abbrev pub file_shape : {F : Type 0} → FileDisk F → Shape
file_shape d =
    record {
      tells = false;
      attached = d.attached;
      writable = d.writes;
      blocks = d.blocks;
      size = d.size;
    }

abbrev pub file_counts : {F : Type 0} → FileDisk F → Counts
file_counts d = d.counts

abbrev pub file_state : {F : Type 0} → FileDisk F → DiskState
file_state d = record { durable = []; pending = [] }

-- whether the last attach failed because another program has the image
abbrev pub is_held : {F : Type 0} → FileDisk F → Bool
is_held d = d.held

-- whether a sync has failed since the last attach that succeeded
abbrev pub is_lost : {F : Type 0} → FileDisk F → Bool
is_lost d = d.lost

-- whether a sync is passed on to the raw file
abbrev pub can_sync : {F : Type 0} → FileDisk F → Bool
can_sync d = d.writes && not d.lost

-- a disk over this raw file that no call has touched yet
pub record IsFileDiskMadeOf {F : Type 0} (raw : F) (d : FileDisk F) : Type 0 where
  pub over : d.raw ≡ raw
  pub not_attached : (file_shape d).attached ≡ false
  pub not_writable : (file_shape d).writable ≡ false
  pub not_held : is_held d ≡ false
  pub not_lost : is_lost d ≡ false
  pub counts : file_counts d ≡ no_counts

-- why an image wasn't opened
abbrev pub reason : Bool → OpenError
reason held = if held then Held else Failed

-- An attach opens the image in one call, to be written where that is asked and else to be read
-- alone, and passes its answer on: the number of whole blocks of the length that was told. It alone
-- lifts the latch of a failed sync, where it succeeds.
pub record OpensFile {F : Type 0} (opens : F → List ℕ → Bool → Result ℕ OpenError → F → Type 0)
    (old new : FileDisk F) (name : List ℕ) (size : ℕ) (writes : Bool) (result : Result ℕ DiskError)
    : Type 0 where
  pub opened : OnOk result (opens old.raw name writes (Ok new.bytes) new.raw)
  pub blocks : OnOk result ((file_shape new).blocks ≡ new.bytes / size)
  pub lifted : OnOk result (is_lost new ≡ false)
  pub free : OnOk result (is_held new ≡ false)
  pub refused : OnErr result (opens old.raw name writes (Err (reason (is_held new))) new.raw)
  pub detached : OnErr result ((file_shape new).attached ≡ false)
  pub not_writable : OnErr result ((file_shape new).writable ≡ false)
  pub kept : OnErr result (is_lost new ≡ is_lost old)

-- A read or a write leaves the latch of a failed sync as it is.
abbrev pub IsLatchKept : {F : Type 0} → FileDisk F → FileDisk F → Type 0
IsLatchKept old new = is_lost new ≡ is_lost old

-- A read is one call, whose answer is passed on. With no image it fails.
pub record TakesFileBlock {F : Type 0} (reads : F → ℕ → List ℕ → Bool → F → Type 0)
    (old new : FileDisk F) (b : ℕ) (into : List ℕ) (result : Result Unit DiskError) : Type 0 where
  pub not_attached : (file_shape old).attached ≡ false → IsErr result
  pub untouched : (file_shape old).attached ≡ false → new.raw ≡ old.raw
  pub answered : IsTrue (file_shape old).attached
      → reads old.raw (b * old.size) into (is_ok result) new.raw

-- The length that was told has room for a block at this place.
abbrev pub HasBytesFor : {F : Type 0} → (F → Option ℕ → Type 0) → FileDisk F → ℕ → Type 0
HasBytesFor measures d place = (bytes : ℕ) × measures d.raw (Some bytes) × (place + d.size ≤ bytes)

-- No length was told, or it has no room for a block at this place.
abbrev pub HasNoRoom : {F : Type 0} → (F → Option ℕ → Type 0) → FileDisk F → ℕ → Type 0
HasNoRoom measures d place =
    measures d.raw None ⊎ ((bytes : ℕ) × measures d.raw (Some bytes) × (bytes < place + d.size))

-- A write is one call, whose answer is passed on, where the image was attached to be written and
-- the file has room for the block. Else it fails, and the file isn't touched.
pub record PutsFileBlock {F : Type 0} (measures : F → Option ℕ → Type 0)
    (puts : F → ℕ → List ℕ → Bool → F → Type 0) (old new : FileDisk F) (b : ℕ) (from : List ℕ)
    (result : Result Unit DiskError) : Type 0 where
  pub not_writable : (file_shape old).writable ≡ false → IsErr result
  pub untouched : (file_shape old).writable ≡ false → new.raw ≡ old.raw
  pub room : IsOk result → HasBytesFor measures old (b * old.size)
  pub done : IsOk result → puts old.raw (b * old.size) from true new.raw
  pub failed : IsTrue (file_shape old).writable → IsErr result
      → (HasNoRoom measures old (b * old.size) × (new.raw ≡ old.raw))
      ⊎ puts old.raw (b * old.size) from false new.raw

-- A sync is one call, whose answer is passed on, where the image was attached to be written and no
-- sync has failed since. Else it fails, and the file isn't touched. A failure is never forgotten.
pub record SyncsFile {F : Type 0} (syncs : F → Bool → F → Type 0) (old new : FileDisk F)
    (result : Result Unit DiskError) : Type 0 where
  pub refused : can_sync old ≡ false → IsErr result
  pub untouched : can_sync old ≡ false → new.raw ≡ old.raw
  pub answered : IsTrue (can_sync old) → syncs old.raw (is_ok result) new.raw
  pub latched : is_lost new ≡ (is_lost old || is_err result)

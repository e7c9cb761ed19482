-- What a disk in memory tells, and where it fails.
use Rattle.std.specs.Prelude.{◌≡◌, ◌↔◌, ◌==◌, ℕ, Bool, true, false, if◌then◌else◌, ◌*◌, List, []}
use Rattle.std.specs.Prelude.{length, drop, min, Option, Result, Ok, Err, IsOk, OnErr, IsErr}
use Rattle.std.specs.Prelude.{IsErrOf, IsSome, IsNone, unwrap_or}
use Rattle.host_block.specs.Disk.{DiskState, added, part_synced}
use Rattle.host_io.specs.Causes.{next_count}
use Rattle.host_io.specs.Disks.{Shape, no_counts}
use Rattle.host_io.specs.Flat.{cut, image_of, put_all}
use Rattle.host_io.specs.Waiting.{pairs_of}
use Rattle.host_io.specs.declared.counts.Counts.{Counts}
use Rattle.host_io.specs.declared.disk.DiskError.{DiskError}
use Rattle.host_io.specs.declared.disk.DiskError.TheVariants.{Failed, Oom}
use Rattle.host_io.specs.declared.fails.FailAt.{FailAt}
use Rattle.host_io.specs.declared.mem_disk.MemDisk.{MemDisk}

-- the bytes that it was made with
abbrev pub opening_of : MemDisk → List ℕ
opening_of d = d.opening.value.items

-- its present content: its durable bytes with all waiting writes put in
abbrev pub held_by : MemDisk → List ℕ
held_by d = put_all d.size d.bytes.items (pairs_of d.waiting.items)

-- the bytes behind its last whole block
abbrev pub rest_of : MemDisk → List ℕ
rest_of d = drop (d.blocks * d.size) d.bytes.items

-- the blocks that an attach at this size gives, under any name
abbrev pub image_held : MemDisk → List ℕ → ℕ → List (List ℕ)
image_held d name size = image_of size (held_by d)

abbrev pub shape_of : MemDisk → Shape
shape_of d =
    record {
      tells = true;
      attached = d.attached;
      writable = d.writable;
      blocks = d.blocks;
      size = d.size;
    }

abbrev pub state_of : MemDisk → DiskState
state_of d =
    record { durable = cut d.size d.blocks d.bytes.items; pending = pairs_of d.waiting.items }

abbrev pub counts_of : MemDisk → Counts
counts_of d = d.counts

-- how often an attach was called
abbrev pub attaches_of : MemDisk → ℕ
attaches_of d = d.attaches

-- its list of failing calls
abbrev pub fails_of : MemDisk → List FailAt
fails_of d = d.fails.items

-- whether that list is empty
abbrev pub never_fails_of : MemDisk → Bool
never_fails_of d = length (fails_of d) == 0

-- a disk of these bytes and this list of failing calls that no call has touched yet
pub record IsDiskMadeOf (bytes : List ℕ) (fails : List FailAt) (d : MemDisk) : Type 0 where
  pub opening : opening_of d ≡ bytes
  pub held : held_by d ≡ bytes
  pub not_attached : (shape_of d).attached ≡ false
  pub not_writable : (shape_of d).writable ≡ false
  pub no_blocks : (shape_of d).blocks ≡ 0
  pub nothing_waits : (state_of d).pending ≡ []
  pub listed : fails_of d ≡ fails
  pub attaches : attaches_of d ≡ 0
  pub counts : counts_of d ≡ no_counts

-- the faults after this answer: one more where the disk failed
abbrev pub faults_counted : {T : Type 0} → Result T DiskError → ℕ → ℕ
faults_counted (Ok x) faults = faults
faults_counted (Err Failed) faults = next_count faults
faults_counted (Err Oom) faults = faults

-- with a failing write of which so much is done
abbrev pub part_written : DiskState → ℕ → List ℕ → ℕ → DiskState
part_written s b bytes part = if part == 0 then s else added s b bytes

-- The call fails exactly where it is listed.
abbrev pub FailsAsListed : {T : Type 0} → Option ℕ → Result T DiskError → Type 0
FailsAsListed {T} listed result = IsErr result ↔ IsSome listed

-- A write fails only where it is listed, and succeeds only where it isn't; a fault does the listed
-- part of it.
pub record WritesAsListed (listed : Option ℕ) (old new : DiskState) (b : ℕ) (bytes : List ℕ)
    (result : Result Unit DiskError) : Type 0 where
  pub success : IsOk result → IsNone listed
  pub fault : IsErrOf result Failed → IsSome listed
  pub part : IsErrOf result Failed → new ≡ part_written old b bytes (unwrap_or listed 0)

-- A sync fails exactly where it is listed, and then makes the listed number of writes durable, or
-- all where they are fewer.
pub record SyncsAsListed (listed : Option ℕ) (old new : DiskState) (result : Result Unit DiskError)
    : Type 0 where
  pub fails : IsErr result ↔ IsSome listed
  pub part : OnErr result (new ≡ part_synced old (min (unwrap_or listed 0) (length old.pending)))

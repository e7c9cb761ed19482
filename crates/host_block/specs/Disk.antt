-- The model of a disk: its state, and what its calls and a crash make of it.
use Prim.Native.Nat.{zero, suc}
use Rattle.std.specs.Prelude.{◌≡◌, ◌⊎◌, ◌<◌, ◌==◌, ℕ, List, [], ◌∷◌, ◌++◌, length, take, drop, All}
use Rattle.std.specs.Prelude.{Contains, slice_index_or, slice_set, if◌then◌else◌}

-- all blocks of an image have this length
abbrev pub IsImage : ℕ → List (List ℕ) → Type 0
IsImage size image = All (λ block. length block ≡ size) image

-- the durable blocks, and the writes that no sync has made durable yet, the oldest first
pub record DiskState : Type 0 where
  pub durable : List (List ℕ)
  pub pending : List (ℕ × List ℕ)

-- the bytes of block b, none past the end
abbrev pub block_at : List (List ℕ) → ℕ → List ℕ
block_at image b = slice_index_or image b []

-- what these writes, in order, make of block b, where these bytes stood there
abbrev pub overwritten : List (ℕ × List ℕ) → ℕ → List ℕ → List ℕ
overwritten [] b bytes = bytes
overwritten (w ∷ ws) b bytes = overwritten ws b (if w.0 == b then w.1 else bytes)

-- what a read of block b gives: the last pending write to it, else the durable bytes
abbrev pub read_of : DiskState → ℕ → List ℕ
read_of s b = overwritten s.pending b (block_at s.durable b)

-- the blocks after these writes, in order
abbrev pub settled : List (List ℕ) → List (ℕ × List ℕ) → List (List ℕ)
settled blocks [] = blocks
settled blocks (w ∷ ws) = settled (slice_set blocks w.0 w.1) ws

-- a disk as an attach leaves it
abbrev pub fresh : List (List ℕ) → DiskState
fresh image = record { durable = image; pending = [] }

-- with one more pending write
abbrev pub added : DiskState → ℕ → List ℕ → DiskState
added s b bytes = record { durable = s.durable; pending = s.pending ++ (b, bytes) ∷ [] }

-- with the first n pending writes made durable
abbrev pub part_synced : DiskState → ℕ → DiskState
part_synced s n =
    record { durable = settled s.durable (take n s.pending); pending = drop n s.pending }

-- with all pending writes made durable
abbrev pub synced : DiskState → DiskState
synced s = record { durable = settled s.durable s.pending; pending = [] }

-- How a call ends: with success, with a fault of the disk, or for want of memory.
pub data Outcome : Type 0 where
  done : Outcome
  failed : Outcome
  refused : Outcome

-- One call of a disk.
pub data DiskCall : Type 0 where
  read : ℕ → Outcome → DiskCall
  write : ℕ → List ℕ → Outcome → DiskCall
  sync : Outcome → DiskCall

-- A call leads from the first state to the second.
abbrev pub Leads : DiskCall → DiskState → DiskState → Type 0
Leads (read b outcome) old new = new ≡ old
Leads (write b bytes done) old new = new ≡ added old b bytes
Leads (write b bytes failed) old new = (new ≡ old) ⊎ (new ≡ added old b bytes)
Leads (write b bytes refused) old new = new ≡ old
Leads (sync done) old new = new ≡ synced old
Leads (sync failed) old new = (n : ℕ) × (new ≡ part_synced old n)
Leads (sync refused) old new = new ≡ old

-- These calls, in order, lead from the first state to the second.
abbrev pub LeadAll : List DiskCall → DiskState → DiskState → Type 0
LeadAll [] old new = new ≡ old
LeadAll (call ∷ calls) old new = (mid : DiskState) × Leads call old mid × LeadAll calls mid new

-- What a crash may leave in block b.
abbrev pub IsCandidate : DiskState → ℕ → List ℕ → Type 0
IsCandidate s b bytes = (bytes ≡ block_at s.durable b) ⊎ Contains s.pending (b, bytes)

-- A crash may leave this image, each block chosen by itself.
pub record IsCrashOf (s : DiskState) (image : List (List ℕ)) : Type 0 where
  pub blocks : length image ≡ length s.durable
  pub each : (b : ℕ) → b < length s.durable → IsCandidate s b (block_at image b)

-- A crash inside a call that leads from the first state to the second may leave what one before or
-- one after it may leave.
abbrev pub IsCrashInside : DiskState → DiskState → List (List ℕ) → Type 0
IsCrashInside old new image = IsCrashOf old image ⊎ IsCrashOf new image

-- the n-th of these writes to block b, counted from 1, and the last where they are fewer; the bytes
-- given where n is 0 or there is none
abbrev pub picked : List (ℕ × List ℕ) → ℕ → ℕ → List ℕ → List ℕ
picked [] b n bytes = bytes
picked (w ∷ ws) b zero bytes = bytes
picked (w ∷ ws) b (suc n) bytes = if w.0 == b then picked ws b n w.1 else picked ws b (suc n) bytes

-- The crash image that these picks choose, a pick for each block, 0 where there is none.
pub record IsPicked (s : DiskState) (picks : List ℕ) (image : List (List ℕ)) : Type 0 where
  pub blocks : length image ≡ length s.durable
  pub each : (b : ℕ) → b < length s.durable
      → block_at image b ≡ picked s.pending b (slice_index_or picks b 0) (block_at s.durable b)

-- Every block, durable or pending, has this size, and every pending write lies on the disk.
pub record IsOfSize (blocks size : ℕ) (s : DiskState) : Type 0 where
  pub count : length s.durable ≡ blocks
  pub each : (b : ℕ) → b < blocks → length (block_at s.durable b) ≡ size
  pub pending : (w : ℕ × List ℕ) → Contains s.pending w → (w.0 < blocks) × (length w.1 ≡ size)

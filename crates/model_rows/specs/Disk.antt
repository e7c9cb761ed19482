-- The disk model, on an image of two blocks of two bytes.
use Rattle.std.specs.Prelude.{◌≡◌, ℕ, ◌-◌, ◌^◌, true, false, List, [], ◌∷◌}
use Rattle.host_block.specs.Changes.{Change, content, barrier}
use Rattle.host_block.specs.Crash.{IsCrashImage}
use Rattle.host_block.specs.Disk.{DiskState, read_of, added, synced, part_synced, fresh, picked}
use Rattle.host_block.specs.Disk.{IsCrashOf, IsCrashInside, write, sync, failed, Leads}
use Rattle.host_block.specs.Lists.{IsPrefix}
use Rattle.host_block.specs.Range.{IsWithin}
use Rattle.host_block.specs.Room.{spare_of}
use Rattle.host_block.specs.Size.{IsBlockSize}
use Rattle.host_block.specs.declared.op.Op.TheVariants.{Read, Write, Trim, Flush}

abbrev pub image : List (List ℕ)
image = (1 ∷ 1 ∷ []) ∷ (2 ∷ 2 ∷ []) ∷ []

-- three writes are pending: to block 1, to block 0 and to block 1 again
abbrev pub disk : DiskState
disk = added (added (added (fresh image) 1 (3 ∷ 3 ∷ [])) 0 (4 ∷ 4 ∷ [])) 1 (5 ∷ 5 ∷ [])

-- a write, a flush, a failed flush, a trim, a failed write, a read
abbrev pub history : List Change
history =
    record { op = Write; block = 0; bytes = 7 ∷ 7 ∷ []; faulted = false }
    ∷ record { op = Flush; block = 0; bytes = []; faulted = false }
    ∷ record { op = Flush; block = 0; bytes = []; faulted = true }
    ∷ record { op = Trim; block = 1; bytes = []; faulted = false }
    ∷ record { op = Write; block = 1; bytes = 8 ∷ 8 ∷ []; faulted = true }
    ∷ record { op = Read; block = 0; bytes = 7 ∷ 7 ∷ []; faulted = false }
    ∷ []

pub record DisksAreAsWritten : Type 0 where
  -- the last block of a range of 30 is within it, one past the end isn't, and no sum wraps
  pub last_within : IsWithin 30 29 1
  pub one_past : ¬ IsWithin 30 29 2
  pub far_past : ¬ IsWithin 30 (2 ^ 64 - 1) 2
  pub all_within : IsWithin 30 0 30
  pub longer_than_all : ¬ IsWithin 30 0 31
  pub begins : IsPrefix {A = ℕ} (1 ∷ 2 ∷ []) (1 ∷ 2 ∷ 3 ∷ [])
  pub two_more_fit : spare_of {A = ℕ} (record { items = 7 ∷ 7 ∷ []; room = 4 }) ≡ 2
  pub last_write : read_of disk 1 ≡ 5 ∷ 5 ∷ []
  pub half_synced : part_synced disk 1 ≡ record {
    durable = (1 ∷ 1 ∷ []) ∷ (3 ∷ 3 ∷ []) ∷ [];
    pending = (0, (4 ∷ 4 ∷ [])) ∷ (1, (5 ∷ 5 ∷ [])) ∷ [];
  }
  pub all_synced : synced disk ≡ fresh ((4 ∷ 4 ∷ []) ∷ (5 ∷ 5 ∷ []) ∷ [])
  -- a write that fails adds its pair or doesn't, a sync that fails makes some first part durable
  pub write_lost : Leads (write 0 (6 ∷ 6 ∷ []) failed) disk disk
  pub write_there : Leads (write 0 (6 ∷ 6 ∷ []) failed) disk (added disk 0 (6 ∷ 6 ∷ []))
  pub sync_half : Leads (sync failed) disk (part_synced disk 1)
  pub first_pick : picked disk.pending 1 1 (2 ∷ 2 ∷ []) ≡ 3 ∷ 3 ∷ []
  pub far_pick : picked disk.pending 1 9 (2 ∷ 2 ∷ []) ≡ 5 ∷ 5 ∷ []
  pub no_pick : picked disk.pending 1 0 (2 ∷ 2 ∷ []) ≡ 2 ∷ 2 ∷ []
  -- a crash may keep the first write to block 1 and lose that to block 0
  pub left_over : IsCrashOf disk ((1 ∷ 1 ∷ []) ∷ (3 ∷ 3 ∷ []) ∷ [])
  -- inside a write it may leave what the write was about to put
  pub left_inside : IsCrashInside (fresh image) (added (fresh image) 1 (3 ∷ 3 ∷ [])) ((1 ∷ 1 ∷ [])
      ∷ (3 ∷ 3 ∷ []) ∷ [])
  pub at_start : content image history 0 0 ≡ 1 ∷ 1 ∷ []
  pub written : content image history 6 0 ≡ 7 ∷ 7 ∷ []
  pub trimmed : content image history 6 1 ≡ 0 ∷ 0 ∷ []
  pub before_trim : content image history 3 1 ≡ 2 ∷ 2 ∷ []
  pub flushed : barrier history ≡ 2
  pub never_flushed : barrier [] ≡ 0
  -- the flushed write stays, the trim may be lost
  pub left_after : IsCrashImage image history ((7 ∷ 7 ∷ []) ∷ (2 ∷ 2 ∷ []) ∷ [])
  -- the sizes of a block
  pub largest_size : IsBlockSize 4096
  pub size_between : ¬ IsBlockSize 1536
  pub too_large : ¬ IsBlockSize 8192

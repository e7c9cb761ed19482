-- Bytes cut into blocks of two, counts of faults, and lists of calls that fail.
use Rattle.std.specs.Prelude.{◌≡◌, ◌^◌, ◌-◌, ℕ, List, [], ◌∷◌, Some, None, Ok, Err}
use Rattle.host_block.specs.Disk.{fresh, added}
use Rattle.host_io.specs.Causes.{next_count, faults_after}
use Rattle.host_io.specs.Copies.{joined_blocks, bytes_of}
use Rattle.host_io.specs.Fails.{part_listed}
use Rattle.host_io.specs.Flat.{image_of, put_all}
use Rattle.host_io.specs.MemDisk.{part_written, faults_counted}
use Rattle.host_io.specs.declared.disk.DiskError.TheVariants.{Oom}
use Rattle.host_io.specs.declared.fails.CallKind.TheVariants.{Read, Write, Sync}
use Rattle.host_io.specs.declared.fails.FailAt.{FailAt}

-- the second write fails with nothing done, though it is named again, and the first sync with
-- three writes done
abbrev pub fails : List FailAt
fails = record { kind = Write; nr = 2; part = 0 } ∷ record { kind = Sync; nr = 1; part = 3 }
    ∷ record { kind = Write; nr = 2; part = 1 } ∷ []

abbrev pub bytes : List ℕ
bytes = 1 ∷ 2 ∷ 3 ∷ 4 ∷ 5 ∷ []

abbrev pub image : List (List ℕ)
image = (1 ∷ 2 ∷ []) ∷ (3 ∷ 4 ∷ []) ∷ []

pub record MemoryDisksAreAsWritten : Type 0 where
  pub one_more : next_count 7 ≡ 8
  pub last_count_stays : next_count (2 ^ 64 - 1) ≡ 2 ^ 64 - 1
  pub error_counted : faults_after {T = ℕ} {E = ℕ} (Err 1) 7 ≡ 8
  pub answer_not_counted : faults_after {T = ℕ} {E = ℕ} (Ok 1) 7 ≡ 7
  -- want of memory is no fault of the disk
  pub want_not_counted : faults_counted {T = ℕ} (Err Oom) 7 ≡ 7
  pub first_entry_counts : part_listed fails Write 2 ≡ Some 0
  pub sync_fails : part_listed fails Sync 1 ≡ Some 3
  pub other_number : part_listed fails Write 1 ≡ None
  pub other_kind : part_listed fails Read 2 ≡ None
  -- the byte behind the last whole block is in none
  pub whole_blocks : image_of 2 bytes ≡ image
  pub put_in_order : put_all 2 bytes ((1, (8 ∷ 8 ∷ [])) ∷ (1, (9 ∷ 9 ∷ [])) ∷ []) ≡ 1 ∷ 2 ∷ 9 ∷ 9
      ∷ 5 ∷ []
  pub blocks_joined : joined_blocks image ≡ 1 ∷ 2 ∷ 3 ∷ 4 ∷ []
  pub last_write_read : bytes_of (added (fresh image) 0 (7 ∷ 7 ∷ [])) 2 ≡ 7 ∷ 7 ∷ 3 ∷ 4 ∷ []
  pub nothing_done : part_written (fresh image) 0 (7 ∷ 7 ∷ []) 0 ≡ fresh image
  pub write_done : part_written (fresh image) 0 (7 ∷ 7 ∷ []) 1 ≡ added (fresh image) 0 (7 ∷ 7 ∷ [])

-- Headers and arrays that differ in one thing from those of the small image, each refused by the
-- part that it breaks; and the
-- backup that is taken where the primary header isn't valid.
use Rattle.std.specs.Prelude.{◌≡◌, ℕ, List, [], ◌∷◌, ◌++◌, drop, replicate, set, take}
use Rattle.host_gpt.specs.Crc.{crc_of}
use Rattle.host_gpt.specs.Entries.{used}
use Rattle.host_gpt.specs.Header.{Agrees, IsEntrySize, IsLarge, header_crc}
use Rattle.host_gpt.specs.Table.{HasLarge, IsChosen, IsArrayInside, IsValid}
use Rattle.host_gpt.specs.declared.header.Header.{Header}
use Rattle.host_gpt.specs.declared.which.Which.TheVariants.{Backup, Primary}
use Rattle.model_rows.specs.Table.{array_block, header_block, image}

-- the header with another byte at this offset
abbrev pub changed : ℕ → ℕ → List ℕ
changed at byte = set header_block at byte

-- with another place of its own, and its right CRC
abbrev pub backup_block : List ℕ
backup_block = take 16 header_block ++ (81 ∷ 38 ∷ 153 ∷ 252 ∷ 0 ∷ 0 ∷ 0 ∷ 0 ∷ 3 ∷ [])
    ++ drop 25 header_block

-- the primary header is gone, and the backup stands in the last block
abbrev pub damaged : List (List ℕ)
damaged = replicate 512 0 ∷ replicate 512 0 ∷ array_block ∷ backup_block ∷ []

-- an array of so many entries, from this block on
abbrev pub array : ℕ → ℕ → ℕ → Header
array block count size = record {
  first_usable = 2;
  last_usable = 2;
  disk_id = replicate 16 9;
  array_lba = block;
  entry_count = count;
  entry_size = size;
  array_crc = 0;
}

pub record WrongHeadersAreRefused : Type 0 where
  pub signature : ¬ Agrees 1 (changed 0 70)
  pub size_of_91 : ¬ Agrees 1 (changed 12 91)
  pub longer_than_its_block : ¬ Agrees 1 (changed 13 2)
  pub another_byte : ¬ Agrees 1 (changed 40 3)
  pub another_place : ¬ Agrees 2 header_block
  -- the CRC is taken with its own field as zero
  pub own_field : ¬ (header_crc header_block ≡ crc_of (take 92 header_block))
  pub entry_size : ¬ IsEntrySize 192

pub record WrongArraysAreRefused : Type 0 where
  -- a byte of the array differs
  pub crc : ¬ IsValid (set image 2 (set array_block 0 3)) 1
  -- four blocks of 512 bytes: an array begins past them, or ends past them
  pub begins_past : ¬ IsArrayInside 4 512 (array 4 1 128)
  pub ends_past : ¬ IsArrayInside 4 512 (array 3 5 128)
  pub ends_with_it : IsArrayInside 4 512 (array 3 4 128)
  -- more entries, or more bytes, than are read
  pub many : IsLarge (array 2 1025 128)
  pub long : IsLarge (array 2 1024 2048)
  pub most : ¬ IsLarge (array 2 1024 1024)
  pub unused : used 1 (replicate 128 0) ≡ []

pub record BackupIsTaken : Type 0 where
  pub backup : IsChosen damaged Backup
  pub primary : ¬ IsChosen damaged Primary
  -- not where the primary is valid, nor from another block
  pub not_both : ¬ IsChosen image Backup
  pub in_block_one : ¬ IsValid damaged 1
  pub not_large : ¬ HasLarge damaged Backup

pub record WrongTablesAreRefused : Type 0 where
  pub headers : WrongHeadersAreRefused
  pub arrays : WrongArraysAreRefused
  pub backup : BackupIsTaken

-- What an image says of its partitions.
use Rattle.std.specs.Prelude.{◌≡◌, ◌⊎◌, ℕ, ◌+◌, ◌-◌, ◌/◌, ◌<◌, ◌≤◌, List, length, take, drop}
use Rattle.std.specs.List.{flat_map}
use Rattle.host_block.specs.Disk.{block_at}
use Rattle.host_gpt.specs.Crc.{crc_of}
use Rattle.host_gpt.specs.Entries.{entries_from}
use Rattle.host_gpt.specs.Header.{Agrees, IsLarge, header_of, array_length}
use Rattle.host_gpt.specs.declared.entry.Entry.{Entry}
use Rattle.host_gpt.specs.declared.header.Header.{Header}
use Rattle.host_gpt.specs.declared.which.Which.{Which}
use Rattle.host_gpt.specs.declared.which.Which.TheVariants.{Primary, Backup}

-- the bytes of all blocks from this one on
abbrev pub bytes_from : List (List ℕ) → ℕ → List ℕ
bytes_from image b = flat_map (λ block. block) (drop b image)

-- the bytes of the entry array
abbrev pub array_of : List (List ℕ) → Header → List ℕ
array_of image h = take (array_length h) (bytes_from image h.array_lba)

-- every block that the array touches lies in the image
abbrev pub IsArrayInside : ℕ → ℕ → Header → Type 0
IsArrayInside blocks size h = (k : ℕ) → k < array_length h → h.array_lba + k / size < blocks

-- the header in block p
abbrev pub header_at : List (List ℕ) → ℕ → Header
header_at image p = header_of (block_at image p)

-- it agrees, isn't large, and its array lies in the image and has its CRC
pub record IsValid (image : List (List ℕ)) (p : ℕ) : Type 0 where
  pub agrees : Agrees p (block_at image p)
  pub small : ¬ IsLarge (header_at image p)
  pub inside : IsArrayInside (length image) (length (block_at image p)) (header_at image p)
  pub crc : (header_at image p).array_crc ≡ crc_of (array_of image (header_at image p))

-- it agrees and is large
pub record IsTooLarge (image : List (List ℕ)) (p : ℕ) : Type 0 where
  pub agrees : Agrees p (block_at image p)
  pub large : IsLarge (header_at image p)

-- the block of a header, in an image of two blocks or more
abbrev pub table_place : List (List ℕ) → Which → ℕ
table_place image Primary = 1
table_place image Backup = length image - 1

-- the image has such a header, and it is valid, or large
abbrev pub HasValid : List (List ℕ) → Which → Type 0
HasValid image which = (2 ≤ length image) × IsValid image (table_place image which)

abbrev pub HasLarge : List (List ℕ) → Which → Type 0
HasLarge image which = (2 ≤ length image) × IsTooLarge image (table_place image which)

-- the table is that of this header: the backup's only where the primary's isn't valid
abbrev pub IsChosen : List (List ℕ) → Which → Type 0
IsChosen image Primary = HasValid image Primary
IsChosen image Backup = (¬ HasValid image Primary) × HasValid image Backup

-- the header in block p gives the id of the disk, the first and last usable block and the used
-- entries
pub record IsReadAt (image : List (List ℕ)) (p : ℕ) (id : List ℕ) (first last : ℕ)
    (entries : List Entry) : Type 0 where
  pub disk_id : id ≡ (header_at image p).disk_id
  pub first_usable : first ≡ (header_at image p).first_usable
  pub last_usable : last ≡ (header_at image p).last_usable
  pub used : entries
      ≡ entries_from 1 (header_at image p).entry_size (header_at image p).entry_count
      (array_of image (header_at image p))

-- The table of the image: the header that it is read from, the id of the disk, the first and last
-- usable block, and the used entries by rising number.
pub record IsTable (image : List (List ℕ)) (which : Which) (id : List ℕ) (first last : ℕ)
    (entries : List Entry) : Type 0 where
  pub chosen : IsChosen image which
  pub read : IsReadAt image (table_place image which) id first last entries

-- no header of the image is valid
pub record HasNone (image : List (List ℕ)) : Type 0 where
  pub primary : ¬ HasValid image Primary
  pub backup : ¬ HasValid image Backup

-- the table is too large: no header is valid, and one is large
pub record TableIsTooLarge (image : List (List ℕ)) : Type 0 where
  pub none : HasNone image
  pub large : HasLarge image Primary ⊎ HasLarge image Backup

-- the table is absent: no header is valid, and none is large
pub record TableIsAbsent (image : List (List ℕ)) : Type 0 where
  pub none : HasNone image
  pub primary : ¬ HasLarge image Primary
  pub backup : ¬ HasLarge image Backup

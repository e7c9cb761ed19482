-- What an image says of the partitions of sessions.
use Rattle.std.specs.Prelude.{◌≡◌, ℕ, ◌+◌, ◌<◌, ◌≤◌, Bool, IsTrue, List, [], ◌∷◌, ◌++◌, length, map}
use Rattle.std.specs.Prelude.{All, Result, Ok, Err, Vec}
use Rattle.std.specs.declared.alloc.Global.{Global}
use Rattle.host_block.specs.declared.range.Range.{Range}
use Rattle.host_gpt.specs.Entries.{AreUsed}
use Rattle.host_gpt.specs.Table.{IsTable, TableIsAbsent, TableIsTooLarge}
use Rattle.host_gpt.specs.declared.which.Which.{Which}
use Rattle.host_io.specs.Disks.{Shape}
use Rattle.host_part.specs.Ranges.{IsRangeOf}
use Rattle.host_part.specs.Served.{Layout}
use Rattle.host_start.specs.declared.error.Limit.TheVariants as limit
use Rattle.host_start.specs.declared.error.StartError.{StartError}
use Rattle.host_start.specs.declared.error.StartError.TheVariants as error
use Rattle.host_start.specs.declared.places.Place.{Place}
use Rattle.host_start.specs.declared.start.Start.{Start}
use Rattle.script_model.specs.Plans.{PlannedSession, plans_of}

-- the most blocks that an image may have
abbrev pub IsSmallEnough : List (List ℕ) → Type 0
IsSmallEnough image = length image ≤ 262144

-- the partitions that sessions name, in their order
abbrev pub parts_of : List PlannedSession → List ℕ
parts_of plans = map (λ plan. plan.part) plans

-- an image of so many blocks of this size is attached, to be written, to a disk that tells or
-- doesn't
pub record IsAttached (blocks size : ℕ) (tells : Bool) (shape : Shape) : Type 0 where
  pub attached : IsTrue shape.attached
  pub writable : IsTrue shape.writable
  pub count : shape.blocks ≡ blocks
  pub of_size : shape.size ≡ size
  pub told : shape.tells ≡ tells

-- an image is attached, to be written or to be read alone, in blocks of this size
pub record IsDiskOpened (size : ℕ) (writes : Bool) (shape : Shape) : Type 0 where
  pub attached : IsTrue shape.attached
  pub writable : shape.writable ≡ writes
  pub of_size : shape.size ≡ size

-- ---- partitions of a layout

-- the partition with this number is served
abbrev pub IsServedPart : Layout → ℕ → Type 0
IsServedPart layout part = (range : Range) × IsRangeOf layout part range

-- these are the partitions with these numbers, each with its range
pub record ArePlaces (layout : Layout) (parts : List ℕ) (places : List Place) : Type 0 where
  pub named : map (λ place. place.part) places ≡ parts
  pub ranges : All (λ place. IsRangeOf layout place.part place.range) places

-- the session with this number, from 1, names this partition, and is the first whose partition
-- isn't served
pub record IsFirstUnserved (layout : Layout) (parts : List ℕ) (session part : ℕ) : Type 0 where
  pub before : List ℕ
  pub after : List ℕ
  pub is : parts ≡ before ++ part ∷ after
  pub number : session ≡ length before + 1
  pub served : All (IsServedPart layout) before
  pub unserved : ¬ IsServedPart layout part

-- looking for the partitions with these numbers
abbrev pub FindsPlaces : Layout → List ℕ → Result (Vec Place Global) StartError → Type 0
FindsPlaces layout parts (Ok places) = ArePlaces layout parts places.items
FindsPlaces layout parts (Err (error.NoPart session part)) =
    IsFirstUnserved layout parts session part
FindsPlaces layout parts (Err error.Oom) = Unit {0}
FindsPlaces layout parts (Err _) = ⊥

-- ---- partitions of an image

-- the image's table, read by this header, has this layout
pub record IsLayoutOn (image : List (List ℕ)) (which : Which) (layout : Layout) : Type 0 where
  pub disk_id : List ℕ
  pub table : IsTable image which disk_id layout.first_usable layout.last_usable layout.entries
  pub blocks : layout.blocks ≡ length image

-- What a start says: its sessions have the partitions that they name, by a layout on so many
-- blocks, whose entries are used ones by rising number, and which is that of the image where the
-- disk tells.
pub record IsPlaced (tells : Bool) (image : List (List ℕ)) (start : Start) : Type 0 where
  pub layout : Layout
  pub blocks : layout.blocks ≡ start.blocks
  pub used : AreUsed layout.entries
  pub places : ArePlaces layout (parts_of (plans_of start.script)) start.places.items
  pub on_image : IsTrue tells → IsLayoutOn image start.which layout

-- the image has a table, and this is the first session whose partition it doesn't serve
pub record LacksPart (image : List (List ℕ)) (parts : List ℕ) (session part : ℕ) : Type 0 where
  pub which : Which
  pub layout : Layout
  pub on_image : IsLayoutOn image which layout
  pub first : IsFirstUnserved layout parts session part

-- what a refusal says of the table of an image; a failure of the disk and want of memory say
-- nothing
abbrev pub SaysOfTable : List (List ℕ) → List ℕ → StartError → Type 0
SaysOfTable image parts error.NoTable = TableIsAbsent image
SaysOfTable image parts (error.TooLarge limit.Table) = TableIsTooLarge image
SaysOfTable image parts (error.NoPart session part) = LacksPart image parts session part
SaysOfTable image parts _ = Unit {0}

-- what a refusal says of the image
abbrev pub SaysOfImage : List (List ℕ) → List ℕ → StartError → Type 0
SaysOfImage image parts (error.TooLarge limit.Blocks) = 262144 < length image
SaysOfImage image parts error.NoTable = IsSmallEnough image × TableIsAbsent image
SaysOfImage image parts (error.TooLarge limit.Table) = IsSmallEnough image × TableIsTooLarge image
SaysOfImage image parts (error.NoPart session part) =
    IsSmallEnough image × LacksPart image parts session part
SaysOfImage image parts _ = Unit {0}

-- What a refusal says of the number of blocks that the disk has, whether or not it tells: too many
-- where that is the cause, and not too many where the table was looked at.
abbrev pub SaysOfBlocks : ℕ → StartError → Type 0
SaysOfBlocks blocks (error.TooLarge limit.Blocks) = 262144 < blocks
SaysOfBlocks blocks error.NoTable = blocks ≤ 262144
SaysOfBlocks blocks (error.TooLarge limit.Table) = blocks ≤ 262144
SaysOfBlocks blocks (error.NoPart session part) = blocks ≤ 262144
SaysOfBlocks blocks _ = Unit {0}

-- attaching an image
abbrev pub Attached : List (List ℕ) → Result ℕ StartError → Type 0
Attached image (Ok blocks) = (blocks ≡ length image) × IsSmallEnough image
Attached image (Err e) = SaysOfImage image [] e

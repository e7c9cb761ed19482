-- What listing an image gives.
use Rattle.std.specs.Prelude.{◌≡◌, ℕ, ◌<◌, ◌≤◌, Bool, false, IsTrue, List, length, Result, Ok, Err}
use Rattle.host_gpt.specs.Reads.{IsTableOf}
use Rattle.host_gpt.specs.Table.{TableIsAbsent, TableIsTooLarge}
use Rattle.host_gpt.specs.declared.table.Table.{Table}
use Rattle.host_gpt.specs.declared.table_error.TableError.{TableError}
use Rattle.host_gpt.specs.declared.table_error.TableError.TheVariants as table
use Rattle.host_io.specs.Disks.{Shape}
use Rattle.host_io.specs.declared.disk.DiskError.{DiskError}
use Rattle.host_io.specs.declared.disk.DiskError.TheVariants as disk
use Rattle.host_list.specs.Text.{list_text}
use Rattle.host_list.specs.declared.opened.Opened.{Opened}
use Rattle.host_list.specs.declared.list_error.ListError.{ListError}
use Rattle.host_list.specs.declared.list_error.ListError.TheVariants.{Disk, TooManyBlocks, NoTable}
use Rattle.host_list.specs.declared.list_error.ListError.TheVariants.{TableTooLarge, Oom, Sink}
use Rattle.host_text.specs.Writing.{Writes}

abbrev pub list_error_of_disk : DiskError → ListError
list_error_of_disk disk.Failed = Disk
list_error_of_disk disk.Oom = Oom

abbrev pub list_error_of_table : TableError → ListError
list_error_of_table table.NoTable = NoTable
list_error_of_table table.Disk = Disk
list_error_of_table table.TooLarge = TableTooLarge
list_error_of_table table.Oom = Oom

-- the most blocks that an image may have
abbrev pub IsSmallEnough : List (List ℕ) → Type 0
IsSmallEnough image = length image ≤ 262144

-- this is the image's table, on so many blocks
pub record IsListed (image : List (List ℕ)) (blocks : ℕ) (table : Table) : Type 0 where
  pub few : IsSmallEnough image
  pub count : blocks ≡ length image
  pub is : IsTableOf image table

-- what a refusal says of the image; a failure of disk or sink and want of memory say nothing
abbrev pub Refuses : List (List ℕ) → ListError → Type 0
Refuses image TooManyBlocks = 262144 < length image
Refuses image NoTable = IsSmallEnough image × TableIsAbsent image
Refuses image TableTooLarge = IsSmallEnough image × TableIsTooLarge image
Refuses image Disk = Unit {0}
Refuses image Oom = Unit {0}
Refuses image Sink = Unit {0}

-- What a refusal says of the number of blocks that the disk has, whether or not it tells: too many
-- where that is the cause, and not too many where the table was looked at.
abbrev pub RefusesBlocks : ℕ → ListError → Type 0
RefusesBlocks blocks TooManyBlocks = 262144 < blocks
RefusesBlocks blocks NoTable = blocks ≤ 262144
RefusesBlocks blocks TableTooLarge = blocks ≤ 262144
RefusesBlocks blocks _ = Unit {0}

-- an image is attached to be read alone, in blocks of this size
pub record IsReadAlone (size : ℕ) (shape : Shape) : Type 0 where
  pub attached : IsTrue shape.attached
  pub not_writable : shape.writable ≡ false
  pub of_size : shape.size ≡ size

-- attaching an image
abbrev pub AttachedForList : List (List ℕ) → Result ℕ ListError → Type 0
AttachedForList image (Ok blocks) = (blocks ≡ length image) × IsSmallEnough image
AttachedForList image (Err e) = Refuses image e

-- the disk attached the image; where it failed or memory was refused, it may not have
abbrev pub HasAttachedForList : {T : Type 0} → Result T ListError → Type 0
HasAttachedForList (Ok x) = Unit {0}
HasAttachedForList (Err Disk) = ⊥
HasAttachedForList (Err Oom) = ⊥
HasAttachedForList (Err _) = Unit {0}

-- opening an image
abbrev pub OpensForList : List (List ℕ) → Result Opened ListError → Type 0
OpensForList image (Ok o) = IsListed image o.blocks o.table
OpensForList image (Err e) = Refuses image e

-- the text of a table on the disk's own blocks was put, which is the image's where the disk tells
pub record Lists (disk_tells : Bool) (image : List (List ℕ)) (own size : ℕ) (tells : Bool)
    (old new : List ℕ) (result : Result Unit ListError) : Type 0 where
  pub blocks : ℕ
  pub table : Table
  pub listed : IsTrue disk_tells → IsListed image blocks table
  pub own_blocks : blocks ≡ own
  pub text : Writes tells old new (list_text blocks size table) result

-- What the answer says: the text was put, up to a failure of the sink, or why nothing was put,
-- where the disk tells.
abbrev pub Answers : Bool → List (List ℕ) → ℕ → ℕ → Bool → List ℕ → List ℕ → Result Unit ListError
    → Type 0
Answers disk_tells image own size tells old new (Ok u) =
    Lists disk_tells image own size tells old new (Ok u)
Answers disk_tells image own size tells old new (Err Sink) =
    Lists disk_tells image own size tells old new (Err Sink)
Answers disk_tells image own size tells old new (Err e) = IsTrue disk_tells → Refuses image e

-- the text wasn't begun
abbrev pub IsListRefused : Result Unit ListError → Type 0
IsListRefused (Ok u) = ⊥
IsListRefused (Err Sink) = ⊥
IsListRefused (Err e) = Unit {0}

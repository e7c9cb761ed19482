-- What a reader of the table tells, and what it finds at one header.
use Rattle.std.specs.Prelude.{◌≡◌, ℕ, List, Option, Some, None, Result, Ok, Err}
use Rattle.host_block.specs.Disk.{block_at}
use Rattle.host_gpt.specs.Entries.{AreUsed}
use Rattle.host_gpt.specs.Header.{Agrees, header_of}
use Rattle.host_gpt.specs.declared.header.Header.{Header}
use Rattle.host_gpt.specs.Table.{IsValid, IsTooLarge, IsReadAt, IsTable, TableIsAbsent}
use Rattle.host_gpt.specs.Table.{TableIsTooLarge}
use Rattle.host_gpt.specs.declared.found.Found.{Found}
use Rattle.host_gpt.specs.declared.found.Found.TheVariants.{Valid, Large, Neither}
use Rattle.host_gpt.specs.declared.table.Table.{Table}
use Rattle.host_gpt.specs.declared.table_error.TableError.{TableError}
use Rattle.host_gpt.specs.declared.table_error.TableError.TheVariants.{NoTable, Disk, TooLarge, Oom}
use Rattle.host_gpt.specs.declared.which.Which.{Which}

-- this is the image's table
abbrev pub IsTableOf : List (List ℕ) → Table → Type 0
IsTableOf image table =
    IsTable image table.which table.disk_id table.first_usable table.last_usable table.entries.items

-- What a reader answers of an image. A failure of the disk and want of memory say nothing of it.
abbrev pub Tells : List (List ℕ) → Result Table TableError → Type 0
Tells image (Ok table) = IsTableOf image table
Tells image (Err NoTable) = TableIsAbsent image
Tells image (Err Disk) = Unit {0}
Tells image (Err TooLarge) = TableIsTooLarge image
Tells image (Err Oom) = Unit {0}

-- the header in block p agrees, and these are its fields
pub record IsHeaderAt (image : List (List ℕ)) (p : ℕ) (header : Header) : Type 0 where
  pub agrees : Agrees p (block_at image p)
  pub fields : header ≡ header_of (block_at image p)

-- the header in block p, where it agrees
abbrev pub HeaderAt : List (List ℕ) → ℕ → Option Header → Type 0
HeaderAt image p None = ¬ Agrees p (block_at image p)
HeaderAt image p (Some header) = IsHeaderAt image p header

-- what was found at the header in block p
abbrev pub FindsTable : List (List ℕ) → ℕ → Which → Found → Type 0
FindsTable image p which (Valid table) =
    IsValid image p × (table.which ≡ which)
    × IsReadAt image p table.disk_id table.first_usable table.last_usable table.entries.items
FindsTable image p which Large = IsTooLarge image p
FindsTable image p which Neither = (¬ IsValid image p) × (¬ IsTooLarge image p)

-- the entries of the table that was found are used ones, by rising number
abbrev pub HasUsed : Found → Type 0
HasUsed (Valid table) = AreUsed table.entries.items
HasUsed _ = Unit {0}

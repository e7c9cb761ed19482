-- The table of an image, if it has one.
use Rattle.std.specs.Prelude.{ℕ, List, Option, Some, None}
use Rattle.host_gpt.specs.Entries.{AreUsed}
use Rattle.host_gpt.specs.Reads.{IsTableOf}
use Rattle.host_gpt.specs.Table.{IsTable}
use Rattle.host_gpt.specs.declared.entry.Entry.{Entry}
use Rattle.host_gpt.specs.declared.table.Table.{Table}
use Rattle.host_gpt.specs.declared.which.Which.{Which}

abbrev pub HasNoTable : List (List ℕ) → Type 0
HasNoTable image =
    (which : Which) (id : List ℕ) (first last : ℕ) (entries : List Entry)
    → ¬ IsTable image which id first last entries

abbrev pub IsTableIn : List (List ℕ) → Option Table → Type 0
IsTableIn image (Some table) = IsTableOf image table × AreUsed table.entries.items
IsTableIn image None = HasNoTable image

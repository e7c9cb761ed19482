-- The range of a number.
use Rattle.std.specs.Prelude.{◌≡◌, ◌≢◌, ℕ, ◌+◌, ◌-◌, All, Contains}
use Rattle.host_block.specs.declared.range.Range.{Range}
use Rattle.host_gpt.specs.declared.entry.Entry.{Entry}
use Rattle.host_part.specs.Served.{Layout, IsServed}

-- this is a used entry with this number
pub record IsEntryOf (layout : Layout) (n : ℕ) (e : Entry) : Type 0 where
  pub listed : Contains layout.entries e
  pub number : e.number ≡ n

-- the range from the first to the last block of the served entry with this number
pub record IsRangeOf (layout : Layout) (n : ℕ) (range : Range) : Type 0 where
  pub entry : Entry
  pub is : IsEntryOf layout n entry
  pub served : IsServed layout entry
  pub starts : range.first ≡ entry.first
  pub counts : range.count ≡ entry.last - entry.first + 1

-- the used entry with this number isn't served
pub record IsBad (layout : Layout) (n : ℕ) : Type 0 where
  pub entry : Entry
  pub is : IsEntryOf layout n entry
  pub not_served : ¬ IsServed layout entry

-- no used entry has this number
abbrev pub IsNumberUnused : Layout → ℕ → Type 0
IsNumberUnused layout n = All (λ e. e.number ≢ n) layout.entries

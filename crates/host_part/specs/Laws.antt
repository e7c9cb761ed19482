-- Laws over the ranges of a table.
use Rattle.std.specs.Prelude.{◌≡◌, ◌≢◌, ℕ, ◌+◌, ◌<◌, ◌≤◌}
use Rattle.host_block.specs.declared.range.Range.{Range}
use Rattle.host_gpt.specs.Entries.{AreUsed}
use Rattle.host_part.specs.Ranges.{IsRangeOf}
use Rattle.host_part.specs.Served.{Layout}

-- the block lies in the range
abbrev pub IsIn : Range → ℕ → Type 0
IsIn range b = (range.first ≤ b) × (b < range.first + range.count)

-- no block lies in the ranges of two numbers
abbrev pub RangesShareNoBlock : Type 0
RangesShareNoBlock =
    (layout : Layout) (m n : ℕ) (r s : Range) → m ≢ n → IsRangeOf layout m r → IsRangeOf layout n s
    → (b : ℕ) → IsIn r b → ¬ IsIn s b

-- a range lies within the usable blocks and in the image
abbrev pub RangeLiesInside : Type 0
RangeLiesInside =
    (layout : Layout) (n : ℕ) (r : Range) → IsRangeOf layout n r → (b : ℕ) → IsIn r b
    → (layout.first_usable ≤ b) × (b ≤ layout.last_usable) × (b < layout.blocks)

-- a number has one range at most
abbrev pub OneRange : Type 0
OneRange =
    (layout : Layout) (n : ℕ) (r s : Range) → AreUsed layout.entries → IsRangeOf layout n r
    → IsRangeOf layout n s → r ≡ s

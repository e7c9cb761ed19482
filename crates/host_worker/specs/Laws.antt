-- A law on histories.
use Rattle.std.specs.Prelude.{◌≡◌, ℕ, ◌-◌, Bool, ◌&&◌, nat_le, nat_lt, List, length, filter, IsTrue}
use Rattle.host_block.specs.declared.range.Range.{Range}
use Rattle.host_block.specs.Changes.{Change, content}

-- whether the block lies in the range
abbrev pub is_in_range : Range → ℕ → Bool
is_in_range range b = nat_le range.first b && nat_lt (b - range.first) range.count

-- a history without the changes of blocks outside the range
abbrev pub inside : Range → List Change → List Change
inside range history = filter (λ c. is_in_range range c.block) history

-- What the blocks of a range have after a history is what they have after the changes of its own
-- blocks alone.
abbrev pub ContentIsOfOwnEntries : Type 0
ContentIsOfOwnEntries =
    (image : List (List ℕ)) (history : List Change) (range : Range) (b : ℕ)
    → IsTrue (is_in_range range b)
    → content image history (length history) b
    ≡ content image (inside range history) (length (inside range history)) b

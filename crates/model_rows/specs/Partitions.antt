-- A table of three entries: one that is served, and two that share block 70.
use Rattle.std.specs.Prelude.{ℕ, [], ◌∷◌, replicate}
use Rattle.host_block.specs.declared.range.Range.{Range}
use Rattle.host_gpt.specs.declared.entry.Entry.{Entry}
use Rattle.host_part.specs.Ranges.{IsBad, IsRangeOf, IsNumberUnused}
use Rattle.host_part.specs.Served.{IsServed, Layout}

abbrev pub entry : ℕ → ℕ → ℕ → Entry
entry number first last = record {
  number = number;
  type_id = replicate 16 1;
  id = replicate 16 2;
  first = first;
  last = last;
  attributes = 0;
  name = replicate 36 0;
}

abbrev pub layout : Layout
layout = record {
  first_usable = 34;
  last_usable = 94;
  blocks = 128;
  entries = entry 1 34 63 ∷ entry 3 64 70 ∷ entry 4 70 80 ∷ [];
}

pub record PartitionsAreServed : Type 0 where
  pub first_is_served : IsServed layout (entry 1 34 63)
  pub its_range : IsRangeOf layout 1 (record { first = 34; count = 30 })
  pub second_is_bad : ¬ IsServed layout (entry 3 64 70)
  -- no other range is that of partition 1, and there is none of one that shares a block or isn't
  -- in the table
  pub one_less : ¬ IsRangeOf layout 1 (record { first = 34; count = 29 })
  pub one_later : ¬ IsRangeOf layout 1 (record { first = 35; count = 30 })
  pub of_a_bad_one : (range : Range) → ¬ IsRangeOf layout 3 range
  pub of_none : (range : Range) → ¬ IsRangeOf layout 2 range
  -- which of the two errors it is
  pub bad : IsBad layout 3
  pub not_unused : ¬ IsNumberUnused layout 3
  pub unused : IsNumberUnused layout 2
  pub not_bad : ¬ IsBad layout 2
  -- an entry outside the usable blocks, one that ends before it begins, and usable blocks past the
  -- image
  pub before_the_usable : ¬ IsServed layout (entry 5 33 33)
  pub past_the_usable : ¬ IsServed layout (entry 5 94 95)
  pub ends_first : ¬ IsServed layout (entry 5 90 89)
  pub past_the_image : ¬ IsServed (record layout { blocks = 94 }) (entry 1 34 63)

-- Facts of the places of a list.
use Rattle.std.specs.Prelude.{ℕ, ◌<◌, List, length, slice_index_or}

-- each place of the list, with what stands there
abbrev pub EachPlace : {A : Type 0} → (ℕ → A → Type 0) → List A → Type 0
EachPlace {A} P xs = (k : ℕ) (d : A) → k < length xs → P k (slice_index_or xs k d)

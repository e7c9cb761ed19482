-- Blocks within a range.
use Rattle.std.specs.Prelude.{ℕ, ◌-◌, ◌≤◌}

-- n blocks from offset o on lie within c blocks
abbrev pub IsWithin : ℕ → ℕ → ℕ → Type 0
IsWithin c o n = (n ≤ c) × (o ≤ c - n)

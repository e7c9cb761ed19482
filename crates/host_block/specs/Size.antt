-- The sizes of a block.
use Rattle.std.specs.Prelude.{◌≡◌, ◌⊎◌, ℕ}

-- a block may have this many bytes
abbrev pub IsBlockSize : ℕ → Type 0
IsBlockSize n = (n ≡ 512) ⊎ (n ≡ 1024) ⊎ (n ≡ 2048) ⊎ (n ≡ 4096)

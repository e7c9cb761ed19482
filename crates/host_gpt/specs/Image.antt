-- The image that the reads of a disk give.
use Rattle.std.specs.Prelude.{ℕ, ◌+◌, ◌<◌, List}
use Rattle.host_block.specs.Disk.{DiskState, settled}

-- the blocks of a disk, with all pending writes made
abbrev pub current_image : DiskState → List (List ℕ)
current_image s = settled s.durable s.pending

-- n blocks from this one on lie in an image of so many blocks
abbrev pub AreInside : ℕ → ℕ → ℕ → Type 0
AreInside blocks first n = (k : ℕ) → k < n → first + k < blocks

-- The bytes of a whole disk.
use Rattle.std.specs.Prelude.{ℕ, List, [], ◌++◌}
use Rattle.std.specs.List.{flat_map}
use Prim.Native.Nat.{zero, suc}
use Rattle.host_block.specs.Disk.{DiskState, read_of}

-- the bytes of these blocks, in order
abbrev pub joined_blocks : List (List ℕ) → List ℕ
joined_blocks image = flat_map (λ block. block) image

-- the bytes that reads of the first n blocks give, in order
abbrev pub bytes_of : DiskState → ℕ → List ℕ
bytes_of s zero = []
bytes_of s (suc n) = bytes_of s n ++ read_of s n

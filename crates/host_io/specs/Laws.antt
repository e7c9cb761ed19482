-- Laws on copies of a disk.
use Rattle.std.specs.Prelude.{◌≡◌, ℕ, ◌<◌, List, length}
use Rattle.host_block.specs.Disk.{IsImage, IsOfSize, fresh}
use Rattle.host_io.specs.Copies.{joined_blocks, bytes_of}
use Rattle.host_io.specs.Flat.{image_of}

-- The bytes read from a disk that was just attached are those of its image.
abbrev pub FreshBytes : Type 0
FreshBytes = (image : List (List ℕ)) → bytes_of (fresh image) (length image) ≡ joined_blocks image

-- The blocks that an attach gave are of the disk's size.
abbrev pub FreshIsImage : Type 0
FreshIsImage =
    (blocks size : ℕ) (image : List (List ℕ)) → IsOfSize blocks size (fresh image)
    → IsImage size image

-- Blocks of one size that were joined are cut apart into the same blocks.
abbrev pub JoinedIsCut : Type 0
JoinedIsCut =
    (size : ℕ) (image : List (List ℕ)) → 0 < size → IsImage size image
    → image_of size (joined_blocks image) ≡ image

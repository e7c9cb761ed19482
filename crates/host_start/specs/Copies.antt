-- The copy of an image in memory.
use Rattle.std.specs.Prelude.{◌≡◌, ℕ, List, [], Result, Ok, Err}
use Rattle.host_io.specs.Flat.{image_of}
use Rattle.host_io.specs.MemDisk.{opening_of}
use Rattle.host_start.specs.Images.{IsSmallEnough, SaysOfImage}
use Rattle.host_start.specs.declared.copy.ImageCopy.{ImageCopy}
use Rattle.host_start.specs.Refusals.{IsAfterAttach}
use Rattle.host_start.specs.declared.error.StartError.{StartError}
use Rattle.host_start.specs.declared.ready.NotReady.{NotReady}
use Rattle.host_start.specs.declared.ready.ReadyCopy.{ReadyCopy}

-- the blocks of a copy, which are those that it opened with
abbrev pub image_in : ImageCopy → List (List ℕ)
image_in copy = image_of copy.size (opening_of copy.disk)

-- copying an image
abbrev pub Copies : List (List ℕ) → Result ImageCopy StartError → Type 0
Copies image (Ok copy) = (image_in copy ≡ image) × IsSmallEnough image
Copies image (Err e) = SaysOfImage image [] e

-- The image was attached. Where the disk failed or memory was refused, it may not have been.
abbrev pub HasAttached : {T : Type 0} → Result T StartError → Type 0
HasAttached (Ok x) = Unit {0}
HasAttached (Err e) = IsAfterAttach e

abbrev pub HasStarted : Result ReadyCopy NotReady → Type 0
HasStarted (Ok ready) = Unit {0}
HasStarted (Err refused) = IsAfterAttach refused.error

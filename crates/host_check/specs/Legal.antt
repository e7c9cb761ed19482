-- A legal history, as a test at each place.
use Rattle.std.specs.Prelude.{ℕ, Bool, true, not, ◌&&◌, List, length, slice_get, take}
use Rattle.std.specs.Option.{option_map_or}
use Rattle.std.specs.Str.{bytes_eq}
use Rattle.host_block.specs.Changes.{Change, changed, is_read}
use Rattle.host_block.specs.Disk.{block_at}
use Rattle.host_model.specs.Lists.{implies}

-- whether a change after these is no good read, or has the content of its block
abbrev pub reads_after : List (List ℕ) → List Change → Change → Bool
reads_after image before c =
    implies (is_read c.op && not c.faulted) (bytes_eq c.bytes
    (changed (length (block_at image c.block)) before c.block (block_at image c.block)))

-- whether the change at this place is
abbrev pub reads_content : List (List ℕ) → List Change → ℕ → Bool
reads_content image history p =
    option_map_or (reads_after image (take p history)) (slice_get history p) true

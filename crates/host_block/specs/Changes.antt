-- A history of changes, and what it makes of an image.
use Rattle.std.specs.Prelude.{◌≡◌, ℕ, ◌+◌, Bool, true, false, not, ◌&&◌, ◌==◌, IsTrue, List, []}
use Rattle.std.specs.Prelude.{◌∷◌, length, take, replicate, slice_get, Some, if◌then◌else◌}
use Rattle.host_block.specs.declared.op.Op.{Op}
use Rattle.host_block.specs.declared.op.Op.TheVariants.{Read, Write, Trim, Flush}
use Rattle.host_block.specs.Disk.{block_at}

-- One entry of a history: what was done, to which block, with which bytes, and whether the disk
-- failed.
pub record Change : Type 0 where
  pub op : Op
  pub block : ℕ
  pub bytes : List ℕ
  pub faulted : Bool

-- whether it puts bytes into a block
abbrev pub puts_bytes : Op → Bool
puts_bytes Read = false
puts_bytes Write = true
puts_bytes Trim = true
puts_bytes Flush = false

-- whether it reads
abbrev pub is_read : Op → Bool
is_read Read = true
is_read Write = false
is_read Trim = false
is_read Flush = false

-- whether it makes what was written durable
abbrev pub is_flush : Op → Bool
is_flush Read = false
is_flush Write = false
is_flush Trim = false
is_flush Flush = true

-- whether it wrote or trimmed block b
abbrev pub changes_block : Change → ℕ → Bool
changes_block c b = not c.faulted && puts_bytes c.op && (c.block == b)

-- the bytes that a write or a trim of a block of this size puts there
abbrev pub put_by : ℕ → Op → List ℕ → List ℕ
put_by size Read bytes = bytes
put_by size Write bytes = bytes
put_by size Trim bytes = replicate size 0
put_by size Flush bytes = bytes

-- what these changes, in order, make of block b of this size, where these bytes stood there
abbrev pub changed : ℕ → List Change → ℕ → List ℕ → List ℕ
changed size [] b bytes = bytes
changed size (c ∷ cs) b bytes =
    changed size cs b (if changes_block c b then put_by size c.op c.bytes else bytes)

-- the content of block b after the first p changes
abbrev pub content : List (List ℕ) → List Change → ℕ → ℕ → List ℕ
content image history p b =
    changed (length (block_at image b)) (take p history) b (block_at image b)

-- each read that didn't fail gave the content at its place
abbrev pub IsLegal : List (List ℕ) → List Change → Type 0
IsLegal image history =
    (p : ℕ) (c : Change) → slice_get history p ≡ Some c → IsTrue (is_read c.op && not c.faulted)
    → c.bytes ≡ content image history p c.block

-- whether it is a flush that didn't fail
abbrev pub is_barrier : Change → Bool
is_barrier c = not c.faulted && is_flush c.op

-- the place after the last such flush, counted from `at`, or `last` where there is none
abbrev pub place_from : ℕ → ℕ → List Change → ℕ
place_from at last [] = last
place_from at last (c ∷ cs) = place_from (at + 1) (if is_barrier c then at + 1 else last) cs

-- the place after the last flush that didn't fail, 0 where there is none
abbrev pub barrier : List Change → ℕ
barrier history = place_from 0 0 history

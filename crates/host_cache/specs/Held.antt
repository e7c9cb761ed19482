-- What a cache holds over its disk, and the content that comes of it.
use Rattle.std.specs.Prelude.{ℕ, ◌==◌, Option, Some, None, List, ◌∷◌, nat_eq, if◌then◌else◌}
use Rattle.std.specs.Map.{lookup, remove_entry}
use Rattle.host_block.specs.Disk.{DiskState, read_of}
use Rattle.host_cache.specs.declared.line.Line.{Line}
use Rattle.host_cache.specs.declared.line.Victim.{Victim}

-- the list, whose front was used last, and the victim: a block out of the list that the disk still
-- has to get
pub record Held : Type 0 where
  pub lines : List (ℕ × Line)
  pub victim : Option Victim

-- the entry of block b, where the list has one
abbrev pub line_at : List (ℕ × Line) → ℕ → Option Line
line_at lines b = lookup (nat_eq b) lines

-- an entry's bytes, else those below it
abbrev pub over_line : Option Line → List ℕ → List ℕ
over_line None below = below
over_line (Some line) below = line.bytes

-- the victim's bytes where it is block b, else those below it
abbrev pub over_victim : Option Victim → ℕ → List ℕ → List ℕ
over_victim None b below = below
over_victim (Some v) b below = if v.block == b then v.bytes else below

-- the content of block b: the list's bytes, else the victim's, else those that a read of the disk
-- gives
abbrev pub cached : Held → DiskState → ℕ → List ℕ
cached held s b = over_line (line_at held.lines b) (over_victim held.victim b (read_of s b))

-- the list with this entry of block b in front, in place of one that it may have had
abbrev pub in_front : ℕ → Line → List (ℕ × Line) → List (ℕ × Line)
in_front b line lines = (b, line) ∷ remove_entry (nat_eq b) lines

-- Which entries of a table are served.
use Rattle.std.specs.Prelude.{◌≢◌, ℕ, ◌<◌, ◌≤◌, min, max, List, All}
use Rattle.host_gpt.specs.declared.entry.Entry.{Entry}
use Rattle.host_gpt.specs.declared.table.Table.{Table}

-- a table as it is served: its first and last usable block, how many blocks the image has, and its
-- used entries
pub record Layout : Type 0 where
  pub first_usable : ℕ
  pub last_usable : ℕ
  pub blocks : ℕ
  pub entries : List Entry

-- a table on an image of so many blocks
abbrev pub layout_of : Table → ℕ → Layout
layout_of table blocks =
    record {
      first_usable = table.first_usable;
      last_usable = table.last_usable;
      blocks = blocks;
      entries = table.entries.items;
    }

-- two entries share a block
abbrev pub Shares : Entry → Entry → Type 0
Shares e f = max e.first f.first ≤ min e.last f.last

-- no entry with another number shares a block with it
abbrev pub IsAlone : List Entry → Entry → Type 0
IsAlone entries e = All (λ f. f.number ≢ e.number → ¬ Shares e f) entries

-- an entry is served: it lies within the usable blocks, these within the image, and it shares no
-- block with another one
pub record IsServed (layout : Layout) (e : Entry) : Type 0 where
  pub above : layout.first_usable ≤ e.first
  pub order : e.first ≤ e.last
  pub below : e.last ≤ layout.last_usable
  pub inside : layout.last_usable < layout.blocks
  pub alone : IsAlone layout.entries e

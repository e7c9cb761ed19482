-- How many entries of each kind a history has, and the room that they take.
use Rattle.std.specs.Prelude.{ℕ, ◌+◌, ◌*◌, Bool, true, false, List}
use Rattle.host_model.specs.declared.memory.MemEvent.{MemEvent}
use Rattle.host_model.specs.declared.memory.MemEvent.TheVariants.{Attach, Fill, Show}
use Rattle.host_model.specs.Lists.{count}
use Rattle.host_model.specs.Releases.{is_pin}

abbrev pub is_attach_entry : MemEvent → Bool
is_attach_entry (Attach id pages from) = true
is_attach_entry _ = false

abbrev pub is_fill_or_show : MemEvent → Bool
is_fill_or_show (Fill id block count byte) = true
is_fill_or_show (Show id block count) = true
is_fill_or_show _ = false

-- how many buffers were given
abbrev pub given_count : List MemEvent → ℕ
given_count h = count is_attach_entry h

-- how much of its room the client has used
abbrev pub used_room : List MemEvent → ℕ
used_room h = 3 * count is_attach_entry h + count is_fill_or_show h

abbrev pub pin_count : List MemEvent → ℕ
pin_count h = count is_pin h

-- What a client did to its buffers, as its log and the buffers' history tell it.
use Rattle.std.specs.Prelude.{◌≡◌, ℕ, Bool, true, false, ◌==◌, ◌&&◌, nat_le, if◌then◌else◌, List}
use Rattle.std.specs.Prelude.{length, filter, filter_map, slice_get, Option, Some, None}
use Rattle.std.specs.List.{range_with_len}
use Rattle.host_model.specs.declared.event.Event.{Event}
use Rattle.host_model.specs.declared.event.Event.TheVariants.{Attached, Filled, Shown}
use Rattle.host_model.specs.declared.memory.MemEvent.{MemEvent}
use Rattle.host_model.specs.declared.memory.MemEvent.TheVariants.{Attach, Fill, Show}
use Rattle.host_model.specs.Lists.{map_with_before}
use Rattle.host_model.specs.Log.{sent, given}
use Rattle.host_model.specs.Session.{Session}

abbrev pub is_client : MemEvent → Bool
is_client (Attach id pages from) = true
is_client (Fill id block count byte) = true
is_client (Show id block count) = true
is_client _ = false

-- the entry of an event, where the client did it after these events
abbrev pub entry_after : List Event → Event → Option MemEvent
entry_after before (Attached pages id) = Some (Attach id pages (length (sent before)))
entry_after before (Filled id block count byte true) = Some (Fill id block count byte)
entry_after before (Shown id block count true bytes) = Some (Show id block count)
entry_after before _ = None

-- the client's entries, as its log tells them
abbrev pub told : List Event → List MemEvent
told log = map_with_before entry_after log

-- the pages of buffer v, where an entry tells that it was given before record i was sent
abbrev pub lent_by : ℕ → ℕ → MemEvent → Option ℕ
lent_by i v (Attach id pages from) = if id == v && nat_le from i then Some pages else None
lent_by i v _ = None

-- the same for a history; it is what the log tells
abbrev pub lent_in : List MemEvent → ℕ → ℕ → Option ℕ
lent_in history i v = slice_get (filter_map (lent_by i v) history) 0

pub record IsToldByLog (s : Session) : Type 0 where
  -- the client's entries are those that its log tells, and ids are given in order from 1
  pub entries : filter is_client s.memory ≡ told s.log
  pub ids : given s.log ≡ range_with_len 1 (length (given s.log))

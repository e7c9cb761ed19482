-- When a buffer is closed and its pages go home.
use Rattle.std.specs.Prelude.{ℕ, Bool, true, false, not, ◌==◌, nat_eq, List, filter_map, Option}
use Rattle.std.specs.Prelude.{Some, None, IsTrue}
use Rattle.std.specs.List.{list_any}
use Rattle.host_model.specs.declared.memory.MemEvent.{MemEvent}
use Rattle.host_model.specs.declared.memory.MemEvent.TheVariants.{Attach, Fill, Show, Pin, Lift}
use Rattle.host_model.specs.declared.memory.MemEvent.TheVariants.{Land, Done, Close, Release}
use Rattle.host_model.specs.Lists.{all_with_before, implies, same_counts}
use Rattle.host_model.specs.Log.{given}
use Rattle.host_model.specs.Session.{Session}

-- the buffer of an entry
abbrev pub buffer_of : MemEvent → ℕ
buffer_of (Attach id pages from) = id
buffer_of (Fill id block count byte) = id
buffer_of (Show id block count) = id
buffer_of (Pin index id by) = id
buffer_of (Lift index k id block bytes) = id
buffer_of (Land index k id block bytes) = id
buffer_of (Done index id) = id
buffer_of (Close index id) = id
buffer_of (Release id) = id

abbrev pub is_pin : MemEvent → Bool
is_pin (Pin index id by) = true
is_pin _ = false

abbrev pub is_close_of : ℕ → MemEvent → Bool
is_close_of v (Close index id) = id == v
is_close_of v _ = false

abbrev pub is_release_of : ℕ → MemEvent → Bool
is_release_of v (Release id) = id == v
is_release_of v _ = false

-- no pin of a buffer stands after its close
abbrev pub pins_before_close : List MemEvent → MemEvent → Bool
pins_before_close before e = implies (is_pin e) (not (list_any (is_close_of (buffer_of e)) before))

-- nothing of a buffer stands after its release
abbrev pub comes_before_release : List MemEvent → MemEvent → Bool
comes_before_release before e = not (list_any (is_release_of (buffer_of e)) before)

abbrev pub released_id : MemEvent → Option ℕ
released_id (Release id) = Some id
released_id _ = None

-- the buffers released, in order
abbrev pub released : List MemEvent → List ℕ
released history = filter_map released_id history

pub record AreReleased (s : Session) : Type 0 where
  -- every buffer given is released once, after everything else of it
  pub once : IsTrue (same_counts nat_eq (released s.memory) (given s.log))
  pub last : IsTrue (all_with_before comes_before_release s.memory)
  pub closes : IsTrue (all_with_before pins_before_close s.memory)

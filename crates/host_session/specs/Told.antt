-- What the buffer history that a client has seen says of its log.
use Rattle.std.specs.Prelude.{◌≡◌, ℕ, Bool, true, false, ◌||◌, List, length, filter, filter_map}
use Rattle.std.specs.Prelude.{IsTrue}
use Rattle.std.specs.List.{list_all, range_with_len}
use Rattle.host_memory.specs.Held.{has_blocks}
use Rattle.host_memory.specs.State.{events}
use Rattle.host_model.specs.declared.event.Event.{Event}
use Rattle.host_model.specs.declared.memory.MemEntry.{MemEntry}
use Rattle.host_model.specs.declared.memory.MemEvent.{MemEvent}
use Rattle.host_model.specs.declared.memory.MemEvent.TheVariants.{Fill, Show, Release}
use Rattle.host_model.specs.ClientEntries.{is_client, told}
use Rattle.host_model.specs.Lists.{all_with_before, map_with_before}
use Rattle.host_model.specs.Log.{given}
use Rattle.host_model.specs.Pages.{found_by, shown_bytes}
use Rattle.host_log.specs.History.{entries_of}

abbrev pub is_release : MemEvent → Bool
is_release (Release id) = true
is_release _ = false

-- what a client may do
abbrev pub is_by_client : MemEvent → Bool
is_by_client e = is_client e || is_release e

-- a fill or show that has an entry found its blocks in the buffer
abbrev pub finds_blocks : List MemEvent → MemEvent → Bool
finds_blocks before (Fill id block count byte) = has_blocks id before block count
finds_blocks before (Show id block count) = has_blocks id before block count
finds_blocks before _ = true

-- The client's entries are those that its log tells; it gave the ids 1, 2, 3 and so on; each show
-- gave what it found, and each fill and show that was done found its blocks.
pub record IsClientTold (client size : ℕ) (log : List Event) (h : List MemEntry) : Type 0 where
  pub entries : filter is_client (events h) ≡ told log
  pub ids : given log ≡ range_with_len 1 (length (given log))
  pub shows : filter_map shown_bytes log ≡ map_with_before (found_by size) (events h)
  pub found : IsTrue (all_with_before finds_blocks (events h))
  pub own : IsTrue (list_all is_by_client (events (entries_of (λ e. e.hand) client h)))

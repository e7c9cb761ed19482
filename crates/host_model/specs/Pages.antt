-- What the pages of a buffer contain, by the buffers' history.
use Rattle.std.specs.Prelude.{◌≡◌, ℕ, ◌+◌, Bool, true, ◌==◌, ◌&&◌, nat_le, nat_lt, List, filter_map}
use Rattle.std.specs.Prelude.{flat_map, replicate, Option, Some, None, IsTrue}
use Rattle.std.specs.Bool.{then_some}
use Rattle.std.specs.List.{range_with_len}
use Rattle.std.specs.Str.{bytes_eq}
use Rattle.host_model.specs.declared.event.Event.{Event}
use Rattle.host_model.specs.declared.event.Event.TheVariants.{Shown}
use Rattle.host_model.specs.declared.memory.MemEvent.{MemEvent}
use Rattle.host_model.specs.declared.memory.MemEvent.TheVariants.{Fill, Show, Lift, Land}
use Rattle.host_model.specs.Lists.{all_with_before, last, map_with_before}
use Rattle.host_model.specs.Session.{Session}

-- what an entry puts into page n of buffer v
abbrev pub page_put_by : ℕ → ℕ → ℕ → MemEvent → Option (List ℕ)
page_put_by size v n (Fill id block count byte) =
    then_some (id == v && nat_le block n && nat_lt n (block + count)) (replicate size byte)
page_put_by size v n (Land index k id block bytes) = then_some (id == v && block == n) bytes
page_put_by size v n _ = None

-- page n of buffer v after these entries: what the last of them put there, else zero bytes
abbrev pub page_at : ℕ → List MemEvent → ℕ → ℕ → List ℕ
page_at size history v n = last (replicate size 0) (filter_map (page_put_by size v n) history)

-- what a show finds after these entries
abbrev pub found_by : ℕ → List MemEvent → MemEvent → Option (List ℕ)
found_by size before (Show v block count) =
    Some (flat_map (λ n. page_at size before v n) (range_with_len block count))
found_by size before _ = None

-- what the client was shown
abbrev pub shown_bytes : Event → Option (List ℕ)
shown_bytes (Shown id block count true bytes) = Some bytes
shown_bytes _ = None

-- a lift after these entries has the bytes of the page
abbrev pub lifts_page : ℕ → List MemEvent → MemEvent → Bool
lifts_page size before (Lift index k v n bytes) = bytes_eq bytes (page_at size before v n)
lifts_page size before _ = true

pub record HasPages (s : Session) : Type 0 where
  -- each show gave what it found, and each lift took what stood there
  pub shows : filter_map shown_bytes s.log ≡ map_with_before (found_by s.size) s.memory
  pub lifts : IsTrue (all_with_before (lifts_page s.size) s.memory)

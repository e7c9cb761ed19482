-- What holds of a memory at all times.
use Rattle.std.specs.Prelude.{◌≡◌, ℕ, suc, ◌+◌, ◌*◌, ◌<◌, ◌≤◌, ◌==◌, true, false, if◌then◌else◌}
use Rattle.std.specs.Prelude.{List, [], ◌∷◌, length, slice_get, filter_map, Option, Some, None}
use Rattle.std.specs.Prelude.{IsTrue}
use Rattle.std.specs.List.{list_all, list_any}
use Rattle.atomic_table.specs.Seated.{TableId}
use Rattle.host_log.specs.Switch.{SwitchedLog}
use Rattle.host_frames.specs.Seats.{SeenPages}
use Rattle.host_model.specs.declared.memory.MemEntry.{MemEntry}
use Rattle.host_model.specs.declared.memory.MemEvent.{MemEvent}
use Rattle.host_model.specs.Lists.{all_with_before, count}
use Rattle.host_model.specs.Pages.{page_at, lifts_page}
use Rattle.host_model.specs.Releases.{buffer_of, comes_before_release, pins_before_close}
use Rattle.host_memory.specs.declared.buffer.Buffer.{Buffer}
use Rattle.host_memory.specs.declared.limits.MemoryLimits.{MemoryLimits}
use Rattle.host_memory.specs.Entries.{given_count, pin_count, used_room}
use Rattle.host_memory.specs.Held.{attachment_by, closer_by, is_released}
use Rattle.host_memory.specs.Numbers.{is_by_its_hand, is_numbered}
use Rattle.host_memory.specs.PagesHeld.{contents_held, page_held, outline}
use Rattle.host_memory.specs.Pins.{is_pin_for, is_done_for, pins_left, pins_on}
use Rattle.host_memory.specs.State.{events}

-- one or no element
abbrev pub listed : {A : Type 0} → Option A → List A
listed None = []
listed (Some x) = x ∷ []

-- a buffer is as its entries tell
pub record IsToldBy (pool : TableId × ℕ) (size : ℕ) (h : List MemEvent) (v : ℕ) (b : Buffer)
    : Type 0 where
  pub attached : filter_map (attachment_by v) h
      ≡ record { pages = b.page_count; from = b.from } ∷ []
  pub closed : filter_map (closer_by v) h ≡ listed b.closer
  pub pinned : pins_on v h ≡ b.pins
  pub held : outline b.pages ≡ (if is_released v h then None else Some (pool, b.page_count))
  pub unpinned : is_released v h ≡ true → b.pins ≡ 0
  pub bytes : (k : ℕ) → k < length (contents_held b.pages)
      → page_held b.pages k ≡ page_at size h v k
  pub long : (k : ℕ) → k < length (contents_held b.pages) → length (page_held b.pages k) ≡ size
  pub few : b.page_count ≤ 4294967295

-- how many entries a buffer may still have, for its close and its release
abbrev pub close_owed : Option ℕ → ℕ
close_owed None = 1
close_owed (Some i) = 0

abbrev pub release_owed : Option SeenPages → ℕ
release_owed None = 0
release_owed (Some p) = 1

abbrev pub buffers_owed : List Buffer → ℕ
buffers_owed [] = 0
buffers_owed (b ∷ bs) = close_owed b.closer + release_owed b.pages + buffers_owed bs

-- the buffers are as the history tells; those not given yet have no entries
pub record AreTold (pool : TableId × ℕ) (size : ℕ) (h : List MemEvent) (buffers : List Buffer)
    : Type 0 where
  pub given : given_count h ≡ length buffers
  pub each : (i : ℕ) (b : Buffer) → slice_get buffers i ≡ Some b → IsToldBy pool size h (suc i) b
  pub never : list_any (λ e. buffer_of e == 0) h ≡ false
  pub fresh : (v : ℕ) → length buffers < v → list_any (λ e. buffer_of e == v) h ≡ false

-- The history has no entry of a buffer after its release, no pin after its close, and each lift has
-- the page's bytes. A record has one pin at most, and a done only where it has a pin.
pub record IsHistorySound (size : ℕ) (h : List MemEvent) : Type 0 where
  pub released : IsTrue (all_with_before comes_before_release h)
  pub closed : IsTrue (all_with_before pins_before_close h)
  pub lifts : IsTrue (all_with_before (lifts_page size) h)
  pub one_pin : (i : ℕ) → count (is_pin_for i) h ≤ 1
  pub done : (i : ℕ) → list_any (is_done_for i) h ≡ true → count (is_pin_for i) h ≡ 1

-- there is room for all entries that may come
pub record HasMemoryRoom (limits : MemoryLimits) (l : SwitchedLog MemEntry) (moves left : ℕ)
    (buffers : List Buffer) : Type 0 where
  pub used : used_room (events l.items) ≤ limits.room
  pub pinned : pin_count (events l.items) ≤ limits.records
  pub ids : length buffers ≤ limits.ids
  pub counted : length (pins_left (events l.items)) ≡ left
  pub room : length l.items + moves + (limits.room + 2 * limits.records) + left
      + buffers_owed buffers
      ≤ l.room + used_room (events l.items) + 2 * pin_count (events l.items)

-- each entry has the number of the seat that makes such entries
pub record AreNumbered (client admissions : ℕ) (entries : List MemEntry) : Type 0 where
  pub numbers : IsTrue (list_all (is_numbered client admissions) entries)
  pub hands : IsTrue (list_all (is_by_its_hand (events entries)) entries)

pub record IsMemoryKept (limits : MemoryLimits) (pool : TableId × ℕ) (l : SwitchedLog MemEntry)
    (moves pins : ℕ) (buffers : List Buffer) : Type 0 where
  pub told : AreTold pool limits.size (events l.items) buffers
  pub sound : IsHistorySound limits.size (events l.items)
  pub room : HasMemoryRoom limits l moves pins buffers
  pub numbered : AreNumbered limits.hands (limits.hands + 1) l.items

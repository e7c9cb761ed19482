-- The records that hold a buffer: they have a pin and no done.
use Rattle.std.specs.Prelude.{ℕ, Bool, false, not, ◌==◌, ◌&&◌, if◌then◌else◌, List, filter, Option}
use Rattle.std.specs.Prelude.{None}
use Rattle.std.specs.List.{list_any}
use Rattle.host_model.specs.declared.memory.MemEvent.{MemEvent}
use Rattle.host_model.specs.declared.memory.MemEvent.TheVariants.{Pin, Done}
use Rattle.host_model.specs.Lists.{count}
use Rattle.host_model.specs.Releases.{buffer_of}
use Rattle.host_memory.specs.Held.{closer_of}

abbrev pub is_pin_for : ℕ → MemEvent → Bool
is_pin_for i (Pin index id by) = i == index
is_pin_for i _ = false

abbrev pub is_done_for : ℕ → MemEvent → Bool
is_done_for i (Done index id) = index == i
is_done_for i _ = false

-- a pin whose record has no done in this history
abbrev pub is_left : List MemEvent → MemEvent → Bool
is_left h (Pin index id by) = not (list_any (is_done_for index) h)
is_left h _ = false

-- the pins without a done
abbrev pub pins_left : List MemEvent → List MemEvent
pins_left h = filter (is_left h) h

-- the pin of record i on buffer v, which names this hand
abbrev pub is_pin_by : ℕ → ℕ → ℕ → MemEvent → Bool
is_pin_by hand i v (Pin index id by) = by == hand && index == i && id == v
is_pin_by hand i v _ = false

-- record i, which this hand carries out, has pinned buffer v
abbrev pub is_pinned_by : ℕ → ℕ → ℕ → List MemEvent → Bool
is_pinned_by hand i v h = list_any (is_pin_by hand i v) (pins_left h)

-- how many records have pinned buffer v
abbrev pub pins_on : ℕ → List MemEvent → ℕ
pins_on v h = count (λ p. buffer_of p == v) (pins_left h)

-- the record that closed buffer v, where no pin is left on it
abbrev pub closer_due : ℕ → List MemEvent → Option ℕ
closer_due v h = if pins_on v h == 0 then closer_of v h else None

-- Whose number an entry has.
use Rattle.std.specs.Prelude.{ℕ, Bool, true, ◌==◌, List}
use Rattle.std.specs.List.{list_any}
use Rattle.host_model.specs.declared.memory.MemEntry.{MemEntry}
use Rattle.host_model.specs.declared.memory.MemEvent.{MemEvent}
use Rattle.host_model.specs.declared.memory.MemEvent.TheVariants.{Attach, Fill, Show, Pin, Lift}
use Rattle.host_model.specs.declared.memory.MemEvent.TheVariants.{Land, Done}
use Rattle.host_model.specs.declared.memory.MemEvent.TheVariants as mem
use Rattle.host_memory.specs.Pins.{is_pin_by}

-- what the client does has its number, and what admissions do theirs
abbrev pub is_number_of : ℕ → ℕ → ℕ → MemEvent → Bool
is_number_of client admissions n (Attach id pages from) = n == client
is_number_of client admissions n (Fill id block count byte) = n == client
is_number_of client admissions n (Show id block count) = n == client
is_number_of client admissions n (Pin index id by) = n == admissions
is_number_of client admissions n (mem.Close index id) = n == admissions
is_number_of client admissions n _ = true

abbrev pub is_numbered : ℕ → ℕ → MemEntry → Bool
is_numbered client admissions e = is_number_of client admissions e.hand e.what

-- what a record does to its buffer is done by the hand that its pin names
abbrev pub is_hand_of : List MemEvent → ℕ → MemEvent → Bool
is_hand_of h n (Lift index k id block bytes) = list_any (is_pin_by n index id) h
is_hand_of h n (Land index k id block bytes) = list_any (is_pin_by n index id) h
is_hand_of h n (Done index id) = list_any (is_pin_by n index id) h
is_hand_of h n _ = true

abbrev pub is_by_its_hand : List MemEvent → MemEntry → Bool
is_by_its_hand h e = is_hand_of h e.hand e.what

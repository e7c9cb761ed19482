-- The client's entries event by event, as its log tells them.
use Rattle.std.specs.Prelude.{ℕ, ◌+◌, Bool, true, false, List, [], ◌∷◌, Option, Some, None}
use Rattle.std.specs.List.{cons_option}
use Rattle.host_model.specs.declared.event.Event.{Event}
use Rattle.host_model.specs.declared.event.Event.TheVariants.{Attached, Filled, Sent, Shown}
use Rattle.host_model.specs.declared.memory.MemEvent.{MemEvent}
use Rattle.host_model.specs.declared.memory.MemEvent.TheVariants.{Attach, Fill, Show}

-- how many records an event sends
abbrev pub sends_in : Event → ℕ
sends_in (Sent index bytes) = 1
sends_in _ = 0

-- whether an event has an entry
abbrev pub has_entry : Event → Bool
has_entry (Attached pages id) = true
has_entry (Filled id block count byte done) = done
has_entry (Shown id block count done bytes) = done
has_entry _ = false

-- the entry of an event, where n records were sent before
abbrev pub entry_at : ℕ → Event → Option MemEvent
entry_at n (Attached pages id) = Some (Attach id pages n)
entry_at n (Filled id block count byte true) = Some (Fill id block count byte)
entry_at n (Shown id block count true bytes) = Some (Show id block count)
entry_at n _ = None

abbrev pub told_from : ℕ → List Event → List MemEvent
told_from n [] = []
told_from n (e ∷ log) = cons_option (entry_at n e) (told_from (n + sends_in e) log)

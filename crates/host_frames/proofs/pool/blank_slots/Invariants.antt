use Rattle.std.proofs.Common.{◌≡◌, ◌≤◌, All, vec_len, vec_capacity}
use Rattle.host_frames.specs.{IsBlankSlot}
use Rattle.host_frames.proofs.pool.blank_slots.Given as goal

abbrev pub invariant-loop : goal.invariant-loop
invariant-loop l = (vec_len l.slots ≡ l.counter) × (l.frames ≤ vec_capacity l.slots) × All (IsBlankSlot l.page_size) l.slots.items

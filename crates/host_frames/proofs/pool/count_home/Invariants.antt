use Rattle.std.proofs.Common.{◌≡◌, ℕ, ◌<◌, ◌≤◌, true, false, get_or, take}
use Rattle.std.specs.Slots.{slots_filled, slots_len, slots_items}
use Rattle.host_frames.specs.{pages_at_home}
use Rattle.host_frames.proofs.pool.count_home.Given as goal

abbrev pub invariant-loop-i : goal.invariant-loop-i
invariant-loop-i l =
    ((k : ℕ) → l.i ≤ k → k < slots_len l.closed.slots → get_or (slots_filled l.closed.slots) k false ≡ true) × ((k : ℕ) → k < l.i → get_or (slots_filled l.closed.slots) k false ≡ false) × (slots_items l.closed.slots ≡ slots_items l.fn.closed.slots) × (slots_len l.closed.slots ≡ slots_len l.fn.closed.slots)
    × (l.home ≡ pages_at_home (take l.i (slots_items l.fn.closed.slots))) × (l.home ≤ l.i)

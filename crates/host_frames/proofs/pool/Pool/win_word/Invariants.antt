use Rattle.std.proofs.Common.{◌≡◌, ◌⊎◌, ◌/◌, ◌%◌, ◌<◌, ◌≤◌, ◌-◌, ℕ, vec_capacity, All}
use Rattle.std.specs.Int.{bit_at}
use Rattle.host_frames.specs.{View, Claim, times_met, IsInWords, HasClaimed, HasGoneOn}
use Rattle.host_frames.proofs.pool.Pool.win_word.Given as goal

abbrev pub invariant-loop-from : goal.invariant-loop-from
invariant-loop-from l =
    All (IsInWords l.self.table.shared.table_id.words) l.pages.items × (l.seat.table_id ≡ l.fn.seat.table_id) × (l.seat.id ≡ l.fn.seat.id) × (vec_capacity l.pages ≡ vec_capacity l.fn.pages)
    × ((v : View) (c : Claim) → HasClaimed l.n v c l.fn.seat.me l.fn.pages.items →
    (d : Claim) × HasClaimed l.n v d l.seat.me l.pages.items × HasGoneOn c d × ((f : ℕ) → f < l.self.frames → f / 64 ≡ l.word → (f % 64 < l.from) ⊎ (bit_at l.found (f % 64) ≡ 1) → 1 ≤ times_met f d))

abbrev pub decreases-loop-from : goal.decreases-loop-from
decreases-loop-from l = l.limit - l.from

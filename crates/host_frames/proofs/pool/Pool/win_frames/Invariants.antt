use Rattle.std.proofs.Common.{◌≡◌, ◌⊎◌, ◌/◌, ◌<◌, ◌≤◌, ℕ, length, vec_capacity, All}
use Rattle.host_frames.specs.{Claim, times_met, IsInWords, HasClaimed}
use Rattle.host_frames.proofs.pool.Pool.win_frames.Given as goal

abbrev pub invariant-loop-word : goal.invariant-loop-word
invariant-loop-word l =
    All (IsInWords l.self.table.shared.table_id.words) l.pages.items × (l.seat.table_id ≡ l.fn.seat.table_id) × (l.seat.id ≡ l.fn.seat.id) × (vec_capacity l.pages ≡ vec_capacity l.fn.pages)
    × ((c : Claim) × HasClaimed l.n l.fn.seat.me.0 c l.seat.me l.pages.items × ((length l.pages.items ≡ l.n) ⊎ ((f : ℕ) → f < l.self.frames → f / 64 < l.word → 1 ≤ times_met f c)))

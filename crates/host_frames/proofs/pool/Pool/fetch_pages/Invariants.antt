use Rattle.std.proofs.Common.{◌≡◌, ◌+◌, ◌-◌, [], length, vec_capacity, All}
use Rattle.host_frames.specs.{set_frames, frames_in, IsBlankPage, IsInWords, frames_of_pages, fetched_view}
use Rattle.host_frames.proofs.pool.Pool.fetch_pages.Given as goal

abbrev pub invariant-loop-bit : goal.invariant-loop-bit
invariant-loop-bit l =
    All (IsInWords l.self.table.shared.table_id.words) l.pages.items × (l.seat.table_id ≡ l.fn.seat.table_id) × (l.seat.id ≡ l.fn.seat.id) × (vec_capacity l.pages ≡ vec_capacity l.fn.pages)
    × (l.seat.me ≡ (fetched_view l.fn.seat.me.0 (set_frames l.word l.won l.bit (64 - l.bit)) (frames_of_pages l.pages.items), []))
    × (length l.pages.items + length (set_frames l.word l.won l.bit (64 - l.bit)) ≡ length l.fn.pages.items + length (frames_in l.word l.won))
    × All (λ p. IsBlankPage l.fn.seat.me.0.page_size p.bytes) l.pages.items

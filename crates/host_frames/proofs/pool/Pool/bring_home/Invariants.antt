use Rattle.std.proofs.Common.{◌≡◌, ◌≤◌, [], All, length}
use Rattle.host_frames.specs.{IsInWords, frames_of_pages, returning_view}
use Rattle.host_frames.proofs.pool.Pool.bring_home.Given as goal

abbrev pub invariant-loop-frame : goal.invariant-loop-frame
invariant-loop-frame l =
    All (IsInWords l.self.table.shared.table_id.words) l.all.items × (l.seat.table_id ≡ l.fn.seat.table_id) × (l.seat.id ≡ l.fn.seat.id) × (length (frames_of_pages l.all.items) ≤ length l.fn.seat.me.0.frames_out)
    × (l.seat.me ≡ (returning_view l.fn.seat.me.0 (frames_of_pages l.all.items), [])) × All (λ p. length p.bytes.items ≡ l.fn.seat.me.0.page_size) l.all.items

abbrev pub decreases-loop-frame : goal.decreases-loop-frame
decreases-loop-frame l = goal.left-loop-frame l

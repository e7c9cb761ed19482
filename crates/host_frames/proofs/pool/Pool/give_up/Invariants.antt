use Rattle.std.proofs.Common.{◌≡◌, [], All, vec_capacity}
use Rattle.host_frames.specs.{IsBlankPage, IsInWords, frames_of_pages, refusing_view}
use Rattle.host_frames.proofs.pool.Pool.give_up.Given as goal

abbrev pub invariant-loop-frame : goal.invariant-loop-frame
invariant-loop-frame l =
    All (IsInWords l.self.table.shared.table_id.words) l.pages.items × (l.seat.table_id ≡ l.fn.seat.table_id) × (l.seat.id ≡ l.fn.seat.id) × (vec_capacity l.pages ≡ vec_capacity l.fn.pages)
    × (l.seat.me ≡ (refusing_view l.fn.seat.me.0 (frames_of_pages l.pages.items), [])) × All (λ p. IsBlankPage l.fn.seat.me.0.page_size p.bytes) l.pages.items

abbrev pub decreases-loop-frame : goal.decreases-loop-frame
decreases-loop-frame l = goal.left-loop-frame l

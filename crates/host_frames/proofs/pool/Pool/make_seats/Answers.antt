use Rattle.std.proofs.Common.{◌≡◌, ◌-◌, ◌+◌, ℕ, ◌∙◌, ap, arith}
use Rattle.host_frames.specs.{idle_view, page_size}
use Rattle.host_frames.proofs.Closing.{making}
use Rattle.host_frames.proofs.pool.Pool.make_seats.Goals as goal

pub split_seat-seat-requires : goal.split_seat-seat-requires
split_seat-seat-requires c = let b = c.args.self.now in let some = b.some.0 in let words = b.words in let inv = c.loop.invariant in let lt = c.loop-test.true in let left : ℕ = c.args.seats - c.loop.counter - 1 in
    (inv.0, omega arith, making b.table.shared.key _ _ left (page_size b) (ap (λ z. z.0) inv.1 ∙ (let e : c.args.seats - c.loop.counter ≡ left + 1 = omega arith in ap (λ (z : ℕ). idle_view z (page_size b)) e)))

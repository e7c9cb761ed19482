use Rattle.std.proofs.Common.{◌≡◌, ◌+◌, ◌∙◌, ap, sym, refl, arith, ◌∷◌, [], length, append_assoc, append-nil, ◌++◌}
use Rattle.std.specs.Prelude.{Some}
use Rattle.std.proofs.lemmas.List.Elements.{All-pop}
use Rattle.host_frames.specs.{PoolSeat, IsBlankPage, seat_pool, pool_id}
use Rattle.host_frames.proofs.Seating.{gathers}
use Rattle.host_frames.proofs.Closing.{gather_begins, gather_more}
use Rattle.host_frames.proofs.pool.Pool.gather_seats.Goals as goal

pub join_seat-requires : goal.join_seat-requires
join_seat-requires c = let b = c.args.self.now in let some = b.some.0 in let words = b.words in let inv = c.loop-seat.invariant in let q : PoolSeat = c.in-Some.field-0 in
    let popped = All-pop (λ (z : PoolSeat). seat_pool z ≡ pool_id b) c.loop-seat.seats.items c.pop.new.self.items (Some q) c.in-Some.ensures.items inv.2 in let has = inv.3.2 in
    (inv.0 ∙ c.requires.base.0, ap (λ z. z.0) popped.1, q.idle.4, omega arith, gathers IsBlankPage b.table.shared.key _ _ _ _ (λ z. let parts : c.loop-seat.base.me.0.share ≡ length inv.3.0 + 1 = ap (λ t. t.0.share) has in absurd (omega arith)))

pub loop-seat-init : goal.loop-seat-init
loop-seat-init c = (refl, refl, c.requires.seats, ([], append-nil c.args.seats.items, gather_begins c.args.base.now.me.0 c.args.base.now.me refl c.requires.base.1))

pub loop-seat-preserved : goal.loop-seat-preserved
loop-seat-preserved c = let b = c.args.self.now in let inv = c.loop-seat.invariant in let q : PoolSeat = c.in-Some.field-0 in let glued = c.join_seat.ensures in
    let popped = All-pop (λ (z : PoolSeat). seat_pool z ≡ pool_id b) c.loop-seat.seats.items c.pop.new.self.items (Some q) c.in-Some.ensures.items inv.2 in
    (glued.0 ∙ inv.0, glued.1 ∙ inv.1, popped.0, (q ∷ inv.3.0, sym (append_assoc c.pop.new.self.items (q ∷ []) inv.3.0) ∙ (ap (λ l. l ++ inv.3.0) (sym c.in-Some.ensures.items) ∙ inv.3.1), gather_more c.args.base.now.me.0 c.loop-seat.base.me c.join_seat.new.seat.me inv.3.0 q inv.3.2 glued.2))

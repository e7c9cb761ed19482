use Rattle.std.proofs.Common.{◌≡◌, ◌-◌, ◌+◌, ℕ, length, sym, subst, arith}
use Rattle.host_turn.specs.{IsMaker, AreNewSeats, book_id, opening_of}
use Rattle.host_turn.proofs.Seating.{makes}
use Rattle.host_turn.proofs.SeatLists.{one_seat_more, seat_made}
use Rattle.host_turn.proofs.book.Book.make_seats.Goals as goal

pub split_seat-seat-requires : goal.split_seat-seat-requires
split_seat-seat-requires g c = let two = c.args.self.now.sized.0 in let is = c.loop.invariant.0 in let left = is.2 in let more = c.loop-test.true in
    (is.0, omega arith, makes g.S.Story.story g.S.Story.maker g.S.Story.fixed _ _ _ is.1 (omega arith))

pub loop-preserved : goal.loop-preserved
loop-preserved g c = let inv = c.loop.invariant in let n : ℕ = c.loop.counter in let cut = c.split_seat-seat.ensures in let b = c.args.self.now in
    let did = seat_made g.S.Story.story g.S.Story.fixed b (c.args.seats - n) n c.loop.maker c.split_seat-seat.new.seat c.split_seat-seat.result inv.0 cut.0 cut.2 cut.3 cut.4 in
    let push = c.push_reserved.ensures in let count : length c.loop.all.items ≡ n = omega (arith, c.loop.all.ok.0, inv.1) in (
      subst (λ (z : ℕ). IsMaker g.S.Story.story g.S.Story.fixed b z (n + 1) c.split_seat-seat.new.seat) (omega arith) did.0,
      (let l = push.len in let i = inv.1 in omega arith),
      (let l = push.capacity in let i = inv.2 in omega arith),
      subst (AreNewSeats g.S.Story.story g.S.Story.fixed (book_id b) (opening_of b)) (sym push.items) (one_seat_more g.S.Story.story g.S.Story.fixed (book_id b) (opening_of b) n c.loop.all.items record { seat = c.split_seat-seat.result } count inv.3 did.1),
    )

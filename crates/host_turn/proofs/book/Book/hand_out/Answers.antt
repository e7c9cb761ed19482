use Rattle.std.proofs.Common.{ℕ, arith, subst}
use Rattle.host_turn.specs.{IsNewSeat, book_id, opening_of}
use Rattle.host_turn.proofs.SeatLists.{seats_pop}
use Rattle.host_turn.proofs.book.Book.hand_out.Goals as goal

pub returns : goal.returns
returns g c =
    let b = c.args.self.now in let old = c.args.seats.now in let new = c.pop.new.self in
    let one = seats_pop g.S.Story.story g.S.Story.fixed (book_id b) (opening_of b) old.items new.items c.pop.result c.unwrap.result c.pop.ensures.items c.unwrap.ensures c.requires.1 in
    let more = one.2 in let k = old.ok.0 in let l = new.ok.0 in
    record {
      seat = subst (λ (n : ℕ). IsNewSeat g.S.Story.story g.S.Story.fixed (book_id b) (opening_of b) n c.unwrap.result) (omega arith) one.1;
      left = one.0;
      count = (omega arith, c.pop.ensures.capacity);
    }

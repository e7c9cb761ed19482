use Rattle.std.proofs.Common.{◌≡◌, [], ◌∷◌, ◌++◌, length, map, ap, sym, subst, ◌∙◌, arith}
use Rattle.host_turn.specs.{AreSeatsAt, book_id}
use Rattle.host_turn.proofs.SeatLists.{are_seats_with_more}
use Rattle.crossbeam_utils.specs.Padded.{padded_value}
use Rattle.state_client.proofs.turn.shelf.Shelf.push.Goals as goal

pub invariant_of-self-2-clause-matching : goal.invariant_of-self-2-clause-matching
invariant_of-self-2-clause-matching c =
    let old = c.args.self.now in let asked = c.requires in
    let books = c.push_reserved.ensures.items ∙ ap (λ l. l ++ c.new.result ∷ []) c.try_reserve.ensures.items in
    let seats = c.push_reserved-2.ensures.items ∙ ap (λ l. l ++ c.args.seat ∷ []) c.try_reserve-2.ensures.items in
    let count : length old.seats.items ≡ length old.books.items = (let full = old.full in let s = old.seats.ok.0 in let b = old.books.ok.0 in omega arith) in
    let more = are_seats_with_more (λ b. book_id (padded_value b)) old.author old.books.items c.new.result old.seats.items c.args.seat old.matching count (asked.0.0 ∙ ap book_id (sym c.new.ensures)) asked.0.1 asked.1 in
    subst (λ bs. AreSeatsAt (map (λ b. book_id (padded_value b)) bs) old.author c.push_reserved-2.new.self.items) (sym books)
    (subst (λ qs. AreSeatsAt (map (λ b. book_id (padded_value b)) (old.books.items ++ c.new.result ∷ [])) old.author qs) (sym seats) more)

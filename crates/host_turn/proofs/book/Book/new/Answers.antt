use Rattle.std.proofs.Common.{◌≡◌, List, [], ◌∷◌, ◌++◌, arith, ap, subst, sym, ◌∙◌}
use Rattle.std.specs.Prelude.{Option, Some}
use Rattle.atomic_table.specs.Table.{opening}
use Rattle.host_turn.specs.{Opening, OneHistory, first_view, AreNewSeats}
use Rattle.host_turn.proofs.Seating.{opens}
use Rattle.host_turn.proofs.book.Book.new.Goals as goal

pub new-requires : goal.new-requires
new-requires g c = let k : Opening g.row.S.Denot = record { state = c.of.result; seats = c.args.seats } in
    let P : List (Option g.row.S.Denot) → Type 0 = λ l. OneHistory g.S.Story.story g.S.Story.maker g.S.Story.fixed k (opening (0 ∷ 0 ∷ []) l (first_view g.S.Story.story g.S.Story.maker g.S.Story.fixed k)) in
    let its : c.push.new.self.items ≡ Some c.args.state ∷ [] = c.in_default-push.ensures.items ∙ ap (λ l. l ++ Some c.args.state ∷ []) c.new-slots.ensures.items in
    subst P (sym its) (opens g.S.Story.story g.S.Story.maker g.S.Story.fixed k c.args.state c.of.ensures (omega (arith, c.ranges.seats.fits)))

pub returns-in-Ok-new-clause-seats : goal.returns-in-Ok-new-clause-seats
returns-in-Ok-new-clause-seats g c = let made = c.make_seats.ensures in let key = c.in-Ok-new.ensures.ok.5 in
    (made.count, subst (λ (x : g.row.S.Denot). AreNewSeats g.S.Story.story g.S.Story.fixed c.in-Ok-new.table.shared.table_id x c.make_seats.new.all.items) (ap (λ k. k.state.value) key ∙ c.of.ensures) made.seats)

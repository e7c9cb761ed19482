use Rattle.std.proofs.Common.{◌≡◌, ◌⊎◌, ◌+◌, ◌≢◌, ℕ, [], ◌∷◌, ◌++◌, length, map, ap, subst, sym, ◌∙◌, vec_len}
use Rattle.std.specs.Prelude.{Option}
use Rattle.std.specs.Option.{option_to_list}
use Rattle.std.specs.List.{All}
use Rattle.std.specs.Slots.{slots_items}
use Rattle.host_turn.specs.{BookSeat, HasGathered, number, seen_by, IsSeenBySome, member_of, seat_count, opening_of}
use Rattle.host_log.specs.{entries_of, Continues}
use Rattle.host_turn.proofs.SeatLists.{closing, some_same, is_some}
use Rattle.host_turn.proofs.book.Book.close.Goals as goal

pub unwrap-requires : goal.unwrap-requires
unwrap-requires g c = let all = c.requires.all in let len = c.pop.ensures.len in
    let base = c.unwrap-base.result in
    let sum : vec_len c.pop.new.self + 1 ≡ seat_count c.args.self = ap (λ (o : Option (BookSeat g.row.S.Denot g.row.S-Entry.Denot g.row.S-Fixed.Denot)). vec_len c.pop.new.self + length (option_to_list o)) (sym c.unwrap-base.ensures) ∙ (len ∙ all.0) in
    let has = subst (λ (z : ℕ). HasGathered c.args.self c.gather_seats.new.base z (map member_of c.pop.new.self.items ++ member_of base ∷ [])) sum c.gather_seats.ensures in
    let last = closing g.S.Story.story g.S.Story.maker g.S.Story.fixed c.args.self c.gather_seats.new.base base c.pop.new.self.items c.args.seats.items (slots_items c.close_with-closed.result.words)
    (slots_items c.close_with-closed.result.slots) c.take-slot.result
    (c.pop.ensures.items ∙ ap (λ o. c.pop.new.self.items ++ option_to_list o) c.unwrap-base.ensures) has c.close_with-closed.ensures.values.2 c.take-slot.ensures.value in
    is_some c.take-slot.result last.0 last.1

pub returns : goal.returns
returns g c = let all = c.requires.all in let len = c.pop.ensures.len in
    let base = c.unwrap-base.result in
    let sum : vec_len c.pop.new.self + 1 ≡ seat_count c.args.self = ap (λ (o : Option (BookSeat g.row.S.Denot g.row.S-Entry.Denot g.row.S-Fixed.Denot)). vec_len c.pop.new.self + length (option_to_list o)) (sym c.unwrap-base.ensures) ∙ (len ∙ all.0) in
    let has = subst (λ (z : ℕ). HasGathered c.args.self c.gather_seats.new.base z (map member_of c.pop.new.self.items ++ member_of base ∷ [])) sum c.gather_seats.ensures in
    let last = closing g.S.Story.story g.S.Story.maker g.S.Story.fixed c.args.self c.gather_seats.new.base base c.pop.new.self.items c.args.seats.items (slots_items c.close_with-closed.result.words)
    (slots_items c.close_with-closed.result.slots) c.take-slot.result
    (c.pop.ensures.items ∙ ap (λ o. c.pop.new.self.items ++ option_to_list o) c.unwrap-base.ensures) has c.close_with-closed.ensures.values.2 c.take-slot.ensures.value in
    let same : last.0 ≡ c.unwrap.result = some_same last.0 c.unwrap.result (sym last.1 ∙ c.unwrap.ensures) in
    record {
      seats = subst (λ (x : g.row.S.Denot). All (λ q. Continues g.S.Story.maker (number q) (seen_by q) (g.S.Story.story x)) c.args.seats.items) same last.2;
      others = subst (λ (x : g.row.S.Denot). (n : ℕ) → All (λ q. number q ≢ n) c.args.seats.items → entries_of g.S.Story.maker n (g.S.Story.story x) ≡ entries_of g.S.Story.maker n (g.S.Story.story (opening_of c.args.self))) same last.3;
      whole = subst (λ (x : g.row.S.Denot). (g.S.Story.story x ≡ g.S.Story.story (opening_of c.args.self)) ⊎ IsSeenBySome c.args.seats.items (g.S.Story.story x)) same last.6;
      fixed_part = ap g.S.Story.fixed (sym same) ∙ last.4;
      numbers = last.5;
    }

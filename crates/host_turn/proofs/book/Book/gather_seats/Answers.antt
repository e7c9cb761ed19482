use Rattle.std.proofs.Common.{◌≡◌, ◌+◌, ℕ, [], ◌∷◌, ◌++◌, length, map, ap, sym, subst, arith, ◌∙◌, append_assoc}
use Rattle.std.specs.Prelude.{Some}
use Rattle.std.proofs.lemmas.List.Elements.{All-pop}
use Rattle.host_turn.specs.{is_at_rest, IsSeatOutside, HasGathered, member_of}
use Rattle.host_turn.proofs.Seating.{gathers}
use Rattle.host_turn.proofs.SeatLists.{one_more_gathered}
use Rattle.host_turn.proofs.book.Book.gather_seats.Goals as goal

pub join_seat-requires : goal.join_seat-requires
join_seat-requires g c = let two = c.args.self.now.sized.0 in let inv = c.loop-seat.invariant in let has = inv.1.2 in
    let out = (All-pop (λ q. IsSeatOutside c.args.self.now q) c.loop-seat.seats.items c.pop.new.self.items (Some c.in-Some.field-0) c.in-Some.ensures.items inv.0).1 in
    (has.0, out.0, out.1.1, omega arith, gathers g.S.Story.story g.S.Story.maker g.S.Story.fixed _ _ _ _ _ has.1 (ap is_at_rest out.1.0))

pub loop-seat-preserved : goal.loop-seat-preserved
loop-seat-preserved g c = let inv = c.loop-seat.invariant in let has = inv.1.2 in let done = inv.1.0 in let q = c.in-Some.field-0 in
    let all = All-pop (λ q. IsSeatOutside c.args.self.now q) c.loop-seat.seats.items c.pop.new.self.items (Some q) c.in-Some.ensures.items inv.0 in let glued = c.join_seat.ensures in (
      all.0,
      (
        q ∷ done,
        sym (append_assoc c.pop.new.self.items (q ∷ []) done) ∙ (ap (λ l. l ++ done) (sym c.in-Some.ensures.items) ∙ inv.1.1),
        subst (λ (z : ℕ). HasGathered c.args.self.now record { seat = c.join_seat.new.seat } z (map member_of (q ∷ done) ++ member_of c.args.base.now ∷ [])) (let e : length done + 1 + 1 ≡ length (q ∷ done) + 1 = omega arith in e)
            (one_more_gathered c.args.self.now (length done + 1) (map member_of done ++ member_of c.args.base.now ∷ []) c.loop-seat.base record { seat = c.join_seat.new.seat } q has all.1 glued.0 glued.2),
      ),
    )

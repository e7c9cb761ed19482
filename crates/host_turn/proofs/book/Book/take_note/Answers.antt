use Rattle.std.proofs.Common.{arith, ap, ◌∙◌}
use Rattle.host_turn.proofs.Stepping.{merge_allowed}
use Rattle.host_turn.proofs.Seating.{tells}
use Rattle.host_turn.proofs.book.Book.take_note.Goals as goal

pub join_seat-requires : goal.join_seat-requires
join_seat-requires g c = let two = c.args.self.now.sized.0 in let note = c.requires.note in
    (c.requires.to.0, note.0, note.2, omega arith, tells g.S.Story.story g.S.Story.maker g.S.Story.fixed _ _ _ _ _ c.requires.to.1.0 note.1)

pub load-requires : goal.load-requires
load-requires g c = let two = c.args.self.now.sized.0 in let glued = c.join_seat.ensures in
    (glued.0 ∙ c.requires.to.0, omega arith, merge_allowed g.S.Story.story g.S.Story.maker g.S.Story.fixed _ _ _ _ (ap (λ m. m.0.stage) glued.2 ∙ c.requires.to.1.0))

use Rattle.std.proofs.Common.{arith}
use Rattle.host_turn.proofs.Seating.{notes}
use Rattle.host_turn.proofs.book.Book.write_note.Goals as goal

pub split_seat-requires : goal.split_seat-requires
split_seat-requires g c = let two = c.args.self.now.sized.0 in (c.requires.0, omega arith, notes g.S.Story.story g.S.Story.maker g.S.Story.fixed _ _ _ c.requires.1.0)

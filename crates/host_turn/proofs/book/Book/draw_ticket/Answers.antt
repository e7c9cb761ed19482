use Rattle.std.proofs.Common.{arith}
use Rattle.host_turn.proofs.Stepping.{draw_allowed}
use Rattle.host_turn.proofs.book.Book.draw_ticket.Goals as goal

pub fetch_add-requires : goal.fetch_add-requires
fetch_add-requires g c = let two = c.args.self.now.sized.0 in (c.requires.0, omega arith, draw_allowed g.S.Story.story g.S.Story.maker g.S.Story.fixed _ _ _ _ c.requires.1.0)

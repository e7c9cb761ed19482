use Rattle.std.proofs.Common.{arith, ◌∙◌}
use Rattle.host_turn.proofs.Stepping.{take_allowed, served_slot}
use Rattle.host_turn.proofs.book.Book.try_turn.Goals as goal

pub load-requires : goal.load-requires
load-requires g c = let two = c.args.self.now.sized.0 in (c.requires.0, omega arith, take_allowed g.S.Story.story g.S.Story.maker g.S.Story.fixed _ _ _ _ c.requires.1.0)

pub exchange-requires : goal.exchange-requires
exchange-requires g c = (
  c.load.ensures.0 ∙ c.requires.0,
  served_slot g.S.Story.story g.S.Story.maker g.S.Story.fixed c.args.self.now.table.shared.table_id.slots c.args.seat.now.seat.me c.load.result c.args.ticket _ c.load.ensures.2 c.requires.1.2 c.if-load-ticket.true,
)

use Rattle.std.proofs.Common.{length, ap, arith}
use Rattle.host_play.proofs.playing.leave_stage.Goals as goal

pub dismiss_all-requires-clause-room : goal.dismiss_all-requires-clause-room
dismiss_all-requires-clause-room g c = let none = ap (λ l. length l) c.requires.hands_room.0 in omega (arith, none, c.requires.hands_room.1)

pub dismiss_all-requires-clause-clients : goal.dismiss_all-requires-clause-clients
dismiss_all-requires-clause-clients g c = let none = ap (λ l. length l) c.requires.clients_room.0 in omega (arith, none, c.requires.clients_room.1)

use Rattle.std.proofs.Common.{refl}
use Rattle.host_worker.proofs.Closed.{closed_worked}
use Rattle.host_worker.proofs.Shared.{its_pool}
use Rattle.host_worker.proofs.ending.close.Goals as goal

pub close_if_done-requires-clause-pool : goal.close_if_done-requires-clause-pool
close_if_done-requires-clause-pool g c = its_pool c.args.server.now c.args.client.now c.requires.server c.requires.client c.args.hand.now c.requires.hand

pub returns-clause-worked : goal.returns-clause-worked
returns-clause-worked g c = closed_worked _ _ _ _ _ refl c.vouch.ensures c.close_if_done.ensures

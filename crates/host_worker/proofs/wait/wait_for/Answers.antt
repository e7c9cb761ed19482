use Rattle.host_worker.proofs.Waiting.{waiting_client, waiting_room, waits_first, waits_on}
use Rattle.host_worker.proofs.wait.wait_for.Goals as goal

pub loop-init : goal.loop-init
loop-init g c = (tt, tt, waits_first c.args.server.now c.args.hand.now c.args.client.now c.requires.hand)

pub help-requires-clause-client : goal.help-requires-clause-client
help-requires-clause-client g c = waiting_client c.args.server.now c.args.hand.now c.args.client.now c.loop.hand c.loop.client c.loop.invariant.2 c.requires.client

pub help-requires-clause-room : goal.help-requires-clause-room
help-requires-clause-room g c = waiting_room c.args.server.now c.args.hand.now c.args.client.now c.loop.hand c.loop.client c.loop.invariant.2 0 c.requires.may

pub loop-preserved : goal.loop-preserved
loop-preserved g c = (
  tt,
  tt,
  waits_on c.args.server.now c.args.hand.now c.args.client.now c.loop.hand c.help.new.hand c.loop.client c.help.new.client c.loop.invariant.2
      c.help.ensures.hand c.help.ensures.worked c.help.ensures.received c.help.ensures.room,
)

use Rattle.host_worker.proofs.Waiting.{waited_room, waited_sent, waiting_client, waiting_records, waiting_room, waiting_send, waiting_shared, waits_first, waits_on, waits_same}
use Rattle.host_worker.proofs.wait.send_through.Goals as goal

pub loop-init : goal.loop-init
loop-init g c = (tt, tt, waits_first c.args.server.now c.args.hand.now c.args.client.now c.requires.hand)

pub index_sent-requires-clause-shared : goal.index_sent-requires-clause-shared
index_sent-requires-clause-shared g c = waiting_shared c.args.server.now c.args.hand.now c.args.client.now c.loop.hand c.loop.client c.loop.invariant.2 c.session_of-shared.result.now c.session_of-shared.ensures

pub index_sent-requires-clause-records : goal.index_sent-requires-clause-records
index_sent-requires-clause-records g c = waiting_records c.args.server.now c.args.hand.now c.args.client.now c.loop.hand c.loop.client c.loop.invariant.2 c.requires.records

pub index_sent-requires-clause-room : goal.index_sent-requires-clause-room
index_sent-requires-clause-room g c = waiting_send c.args.server.now c.args.hand.now c.args.client.now c.loop.hand c.loop.client c.loop.invariant.2 c.requires.may

pub help-requires-clause-client : goal.help-requires-clause-client
help-requires-clause-client g c =
    let w = waits_same c.args.server.now c.args.hand.now c.args.client.now c.loop.hand c.loop.client c.index_sent.new.client c.loop.invariant.2 c.in-None-index_sent.ensures in
    waiting_client c.args.server.now c.args.hand.now c.args.client.now c.loop.hand c.index_sent.new.client w c.requires.client

pub help-requires-clause-room : goal.help-requires-clause-room
help-requires-clause-room g c =
    let w = waits_same c.args.server.now c.args.hand.now c.args.client.now c.loop.hand c.loop.client c.index_sent.new.client c.loop.invariant.2 c.in-None-index_sent.ensures in
    waiting_room c.args.server.now c.args.hand.now c.args.client.now c.loop.hand c.index_sent.new.client w 1 c.requires.may

pub loop-preserved : goal.loop-preserved
loop-preserved g c =
    let w = waits_same c.args.server.now c.args.hand.now c.args.client.now c.loop.hand c.loop.client c.index_sent.new.client c.loop.invariant.2 c.in-None-index_sent.ensures in (
      tt,
      tt,
      waits_on c.args.server.now c.args.hand.now c.args.client.now c.loop.hand c.help.new.hand c.index_sent.new.client c.help.new.client w
          c.help.ensures.hand c.help.ensures.worked c.help.ensures.received c.help.ensures.room,
    )

pub returns-in-Some-index_sent : goal.returns-in-Some-index_sent
returns-in-Some-index_sent g c = record {
  hand = c.loop.invariant.2.hand_is;
  worked = c.loop.invariant.2.worked;
  sent = waited_sent c.args.server.now c.args.hand.now c.args.client.now c.loop.hand c.loop.client c.loop.invariant.2 c.args.bytes c.in-Some-index_sent.index c.index_sent.new.client c.in-Some-index_sent.ensures;
  room = waited_room c.args.server.now c.args.hand.now c.args.client.now c.loop.hand c.loop.client c.loop.invariant.2 c.args.bytes c.in-Some-index_sent.index c.index_sent.new.client c.in-Some-index_sent.ensures;
}

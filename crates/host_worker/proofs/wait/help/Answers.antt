use Rattle.std.proofs.Common.{sym, subst}
use Rattle.host_session.specs.{ClientState}
use Rattle.host_worker.specs.{KeepsRoom}
use Rattle.host_worker.proofs.Receiving.{plan_still}
use Rattle.host_worker.proofs.Shared.{client_still, note_fits}
use Rattle.host_worker.proofs.wait.help.Goals as goal

pub place_of-place-requires-clause-client : goal.place_of-place-requires-clause-client
place_of-place-requires-clause-client g c = client_still c.args.server.now c.args.client.now c.receive.new.client (plan_still c.args.client.now c.receive.new.client c.receive.ensures.received) c.requires.client

pub turn_at-turn-requires-clause-note : goal.turn_at-turn-requires-clause-note
turn_at-turn-requires-clause-note g c =
    note_fits c.args.server.now c.receive.new.client c.requires.server
    (client_still c.args.server.now c.args.client.now c.receive.new.client (plan_still c.args.client.now c.receive.new.client c.receive.ensures.received) c.requires.client)
    c.args.hand.now c.requires.hand c.place_of-place.result c.tell-note.result c.place_of-place.ensures.place c.tell-note.ensures.ring

pub returns-clause-room : goal.returns-clause-room
returns-clause-room g c = subst (λ (s : ClientState). KeepsRoom c.args.client.now s) (sym c.tell-note.ensures.same) c.receive.ensures.room

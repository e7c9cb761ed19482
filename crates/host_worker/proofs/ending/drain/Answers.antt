use Rattle.std.proofs.Common.{Bool, subst}
use Rattle.host_session.specs.{IsCloseAnswer}
use Rattle.host_worker.proofs.Closed.{drain_ends, drain_hand, drain_helped, drain_open, draining_client, drains_with}
use Rattle.host_worker.proofs.ending.drain.Goals as goal

pub loop-init : goal.loop-init
loop-init g c = (tt, tt, drains_with c.args.server.now c.args.hand.now c.args.client.now c.finish.new.self c.requires.hand c.vouch.ensures c.requires.may c.finish.ensures)

pub close-requires-clause-client : goal.close-requires-clause-client
close-requires-clause-client g c = (draining_client c.args.server.now c.args.hand.now c.args.client.now c.loop.hand c.loop.client c.loop.invariant.2 c.requires.client).0

pub close-requires-clause-ended : goal.close-requires-clause-ended
close-requires-clause-ended g c = (draining_client c.args.server.now c.args.hand.now c.args.client.now c.loop.hand c.loop.client c.loop.invariant.2 c.requires.client).1

pub returns-then-close : goal.returns-then-close
returns-then-close g c =
    let a = subst (λ (b : Bool). IsCloseAnswer c.loop.client c.close.new.client c.loop.hand.pool_seat c.close.new.hand.pool_seat b) c.if-close.true c.close.ensures.answer in
    let h = drain_hand c.args.server.now c.args.hand.now c.args.client.now c.loop.hand c.close.new.hand c.loop.client c.close.new.client c.loop.invariant.2 c.close.ensures.hand c.close.ensures.worked in
    record {
      hand = h.0;
      worked = h.1;
      drained = drain_ends c.args.server.now c.args.hand.now c.args.client.now c.loop.hand c.close.new.hand c.loop.client c.close.new.client c.loop.invariant.2 a;
    }

pub help-requires : goal.help-requires
help-requires g c =
    let a = subst (λ (b : Bool). IsCloseAnswer c.loop.client c.close.new.client c.loop.hand.pool_seat c.close.new.hand.pool_seat b) c.if-close.false c.close.ensures.answer in
    let d = drain_open c.args.server.now c.args.hand.now c.args.client.now c.loop.hand c.close.new.hand c.loop.client c.close.new.client c.loop.invariant.2 c.close.ensures.hand a c.close.ensures.worked in
    record {
      server = c.requires.server;
      client = (draining_client c.args.server.now c.args.hand.now c.args.client.now c.close.new.hand c.close.new.client d c.requires.client).0;
      hand = d.hand_is;
      room = d.room;
    }

pub loop-preserved : goal.loop-preserved
loop-preserved g c =
    let a = subst (λ (b : Bool). IsCloseAnswer c.loop.client c.close.new.client c.loop.hand.pool_seat c.close.new.hand.pool_seat b) c.if-close.false c.close.ensures.answer in
    let d = drain_open c.args.server.now c.args.hand.now c.args.client.now c.loop.hand c.close.new.hand c.loop.client c.close.new.client c.loop.invariant.2 c.close.ensures.hand a c.close.ensures.worked in (
      tt,
      tt,
      drain_helped c.args.server.now c.args.hand.now c.args.client.now c.close.new.hand c.help.new.hand c.close.new.client c.help.new.client d
          c.help.ensures.hand c.help.ensures.worked c.help.ensures.received c.help.ensures.room,
    )

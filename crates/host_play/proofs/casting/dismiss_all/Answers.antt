use Rattle.std.proofs.Common.{◌∷◌, [], ◌++◌, length, ap, ◌∙◌, arith, length-append}
use Rattle.std.specs.Option.{option_to_list}
use Rattle.host_play.specs.{clients_in, ends_of_client, hands_in}
use Rattle.host_play.proofs.CastSoFar.{one_back, room_back}
use Rattle.host_play.proofs.casting.dismiss_all.Goals as goal

pub put_client-requires : goal.put_client-requires
put_client-requires g c =
    let popped = c.pop.ensures.items ∙ ap (λ o. c.pop.new.self.items ++ option_to_list o) c.in-Some.is in
    let room = room_back c.loop-actor.actors.items c.pop.new.self.items c.in-Some.actor popped in
    omega (arith, c.loop-actor.invariant.clients_fit, room)

pub loop-actor-preserved : goal.loop-actor-preserved
loop-actor-preserved g c =
    let popped = c.pop.ensures.items ∙ ap (λ o. c.pop.new.self.items ++ option_to_list o) c.in-Some.is in
    let room = room_back c.loop-actor.actors.items c.pop.new.self.items c.in-Some.actor popped in
    let fewer = ap (λ l. length l) popped in
    let hand = c.push_reserved.ensures.items in
    let more = ap (λ l. length l) hand in
    let client = c.put_client.ensures.items in
    let clients = ap (λ l. length l) client in
    record {
      so_far = one_back (c.args.hands.now.items ++ hands_in c.args.actors.items) (c.args.clients.now.items ++ clients_in c.args.actors.items) c.loop-actor.hands.items c.push_reserved.new.self.items c.loop-actor.clients.items c.put_client.new.clients.items
          c.loop-actor.actors.items c.pop.new.self.items c.loop-actor.invariant.so_far c.in-Some.actor popped hand client;
      hands_fit = omega (arith, c.loop-actor.invariant.hands_fit, fewer, more, c.push_reserved.ensures.capacity, length-append c.loop-actor.hands.items (c.in-Some.actor.hand ∷ []), length-append c.pop.new.self.items (c.in-Some.actor ∷ []));
      clients_fit = omega (arith, c.loop-actor.invariant.clients_fit, room, clients, c.put_client.ensures.capacity, length-append c.loop-actor.clients.items (ends_of_client c.in-Some.actor.client));
    }

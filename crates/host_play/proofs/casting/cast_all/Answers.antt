use Rattle.std.proofs.Common.{◌∷◌, [], ◌++◌, length, ap, sym, subst, ◌∙◌, arith, length-append}
use Rattle.std.specs.Option.{option_to_list}
use Rattle.host_play.proofs.CastSoFar.{IsCastSoFar, none_cast, one_cast}
use Rattle.host_play.proofs.casting.cast_all.Goals as goal

pub loop-hand-init : goal.loop-hand-init
loop-hand-init g c = record {
  so_far = none_cast c.args.hands.items c.args.clients.items c.args.pieces.items c.args.room.items c.requires.room.0 c.requires.enough c.requires.pieces;
  room = let empty = ap (λ l. length l) c.requires.room.0 in omega (arith, empty, c.requires.room.1);
}

pub loop-hand-preserved : goal.loop-hand-preserved
loop-hand-preserved g c =
    let popped = c.pop.ensures.items ∙ ap (λ o. c.pop.new.self.items ++ option_to_list o) c.in-Some.is in
    let pushed = c.push_reserved.ensures.items in
    record {
      so_far =
          subst (λ l. IsCastSoFar c.args.hands.items c.args.clients.items c.args.pieces.items c.pop.new.self.items c.take_client-client.new.clients.items c.take_client-client.new.pieces.items l) (sym pushed)
          (one_cast c.args.hands.items c.args.clients.items c.args.pieces.items c.loop-hand.hands.items c.pop.new.self.items c.loop-hand.clients.items c.take_client-client.new.clients.items c.loop-hand.pieces.items c.take_client-client.new.pieces.items c.loop-hand.actors.items
          c.loop-hand.invariant.so_far c.in-Some.hand c.take_client-client.result popped c.take_client-client.ensures);
      room =
          let more = ap (λ l. length l) pushed in
          let less = ap (λ l. length l) popped in
          omega (arith, c.loop-hand.invariant.room, more, less, c.push_reserved.ensures.capacity, length-append c.loop-hand.actors.items (record { hand = c.in-Some.hand; client = c.take_client-client.result } ∷ []), length-append c.pop.new.self.items (c.in-Some.hand ∷ []));
    }

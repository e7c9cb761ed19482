use Rattle.std.proofs.Common.{◌<◌, ◌++◌, ◌∷◌, [], length, map, sym, ap, subst, ◌∙◌, arith, length-append}
use Rattle.host_worker.proofs.Taking.{AreTakenBack, all_yielded, one_yielded, pushed_map, room_still, taken_more}
use Rattle.host_worker.proofs.finish.take_back.Goals as goal

pub put_back-requires-clause-room : goal.put_back-requires-clause-room
put_back-requires-clause-room g c =
    let inv = c.loop-hand.invariant in
    let are = one_yielded c.args.hands.items c.loop-hand.yielded c.loop-hand.hand-iterator.rest.items c.next.new.self.rest.items c.in-Some.hand inv.rest c.in-Some.ensures.steps.0 in
    let less : length c.loop-hand.yielded < length c.args.hands.items =
    omega (arith, ap length are, length-append (c.loop-hand.yielded ++ c.in-Some.hand ∷ []) c.next.new.self.rest.items, length-append c.loop-hand.yielded (c.in-Some.hand ∷ [])) in
    room_still c.loop-hand.yielded (length c.args.hands.items) c.args.sessions.now.items c.loop-hand.sessions.items inv.taken less c.requires.room.sessions_have

pub loop-hand-preserved : goal.loop-hand-preserved
loop-hand-preserved g c =
    let inv = c.loop-hand.invariant in
    let are = one_yielded c.args.hands.items c.loop-hand.yielded c.loop-hand.hand-iterator.rest.items c.next.new.self.rest.items c.in-Some.hand inv.rest c.in-Some.ensures.steps.0 in
    record {
      next = tt;
      ends = tt;
      rest = are;
      device_seats = pushed_map (λ hand. hand.device_seat) c.args.room.now.device_seats.items c.loop-hand.yielded c.in-Some.hand c.loop-hand.room.device_seats.items c.push_reserved.new.self.items c.push_reserved.ensures.items inv.device_seats;
      pool_seats = pushed_map (λ hand. hand.pool_seat) c.args.room.now.pool_seats.items c.loop-hand.yielded c.in-Some.hand c.loop-hand.room.pool_seats.items c.push_reserved-in-loop-hand.new.self.items c.push_reserved-in-loop-hand.ensures.items inv.pool_seats;
      reports = inv.reports;
      room = (c.push_reserved.ensures.capacity ∙ inv.room.0, c.push_reserved-in-loop-hand.ensures.capacity ∙ inv.room.1);
      taken = taken_more c.loop-hand.yielded c.in-Some.hand c.args.sessions.now.items c.loop-hand.sessions.items c.put_back.new.sessions.items inv.taken c.put_back.ensures;
    }

pub returns : goal.returns
returns g c =
    let inv = c.loop-hand.invariant in
    let all = sym (all_yielded c.args.hands.items c.loop-hand.yielded c.loop-hand.hand-iterator.rest.items inv.rest (sym c.loop-hand.hand-iterator.rest.ok.0 ∙ c.in-None.ensures.steps.0)) in
    let taken = subst (λ l. AreTakenBack l c.args.sessions.now.items c.loop-hand.sessions.items) all inv.taken in
    record {
      device_seats = inv.device_seats ∙ ap (λ l. c.args.room.now.device_seats.items ++ map (λ hand. hand.device_seat) l) all;
      pool_seats = inv.pool_seats ∙ ap (λ l. c.args.room.now.pool_seats.items ++ map (λ hand. hand.pool_seat) l) all;
      ends = inv.reports;
      sessions = record {
        count = taken.count;
        each = λ k s s' at at'. let e = taken.each k s s' at at' in (e.0, e.1, e.2, e.3);
      };
    }

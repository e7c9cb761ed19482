use Rattle.host_worker.specs.{AreToEnd, AreEnded, ends_seen, hand_end}
use Rattle.std.proofs.Common.{map, sym, subst, Bool, ◌∙◌}
use Rattle.host_device.specs.{shape_of, steps_of}
use Rattle.host_worker.proofs.Finishing.{finished, to_end}
use Rattle.host_worker.proofs.Unroomed.{all_back, all_device_seats, all_pool_seats, device_seats_are, device_seats_outside, ends_kept, ends_room, pool_seats_are, pool_seats_of_it, room_for, room_kept, room_of_all, shares_fit}
use Rattle.host_worker.proofs.server.Server.finish.Goals as goal

pub room_in-room-requires-clause-kept : goal.room_in-room-requires-clause-kept
room_in-room-requires-clause-kept g c = (room_kept c.args.self c.requires.server c.args.hands.items c.requires.hands).1

pub take_back-requires-clause-room : goal.take_back-requires-clause-room
take_back-requires-clause-room g c = room_for c.args.self c.requires.server c.args.hands.items c.requires.hands c.room_in-room.new.hands.items c.room_in-room.ensures.hands c.room_in-room.result (room_of_all c.args.self c.requires.server c.args.hands.items c.requires.hands c.room_in-room.result c.room_in-room.ensures.room)

pub take_back-requires-clause-shares : goal.take_back-requires-clause-shares
take_back-requires-clause-shares g c = shares_fit c.args.self c.requires.server c.args.hands.items c.requires.hands c.room_in-room.new.hands.items c.room_in-room.ensures.hands c.room_in-room.result (room_of_all c.args.self c.requires.server c.args.hands.items c.requires.hands c.room_in-room.result c.room_in-room.ensures.room)

pub close-device-requires-clause-all : goal.close-device-requires-clause-all
close-device-requires-clause-all g c = all_device_seats c.args.self c.requires.server c.args.hands.items c.requires.hands c.room_in-room.new.hands.items c.room_in-room.ensures.hands c.room_in-room.result (room_of_all c.args.self c.requires.server c.args.hands.items c.requires.hands c.room_in-room.result c.room_in-room.ensures.room) c.take_back.new.room c.take_back.new.sessions.items c.take_back.ensures

pub close-device-requires-clause-outside : goal.close-device-requires-clause-outside
close-device-requires-clause-outside g c = device_seats_outside c.args.self c.requires.server c.args.hands.items c.requires.hands c.room_in-room.new.hands.items c.room_in-room.ensures.hands c.room_in-room.result (room_of_all c.args.self c.requires.server c.args.hands.items c.requires.hands c.room_in-room.result c.room_in-room.ensures.room) c.take_back.new.room c.take_back.new.sessions.items c.take_back.ensures

pub close_pool-frames_home-requires-clause-all : goal.close_pool-frames_home-requires-clause-all
close_pool-frames_home-requires-clause-all g c = all_pool_seats c.args.self c.requires.server c.args.hands.items c.requires.hands c.room_in-room.new.hands.items c.room_in-room.ensures.hands c.room_in-room.result (room_of_all c.args.self c.requires.server c.args.hands.items c.requires.hands c.room_in-room.result c.room_in-room.ensures.room) c.take_back.new.room c.take_back.new.sessions.items c.take_back.ensures

pub close_pool-frames_home-requires-clause-seats : goal.close_pool-frames_home-requires-clause-seats
close_pool-frames_home-requires-clause-seats g c = pool_seats_of_it c.args.self c.requires.server c.args.hands.items c.requires.hands c.room_in-room.new.hands.items c.room_in-room.ensures.hands c.room_in-room.result (room_of_all c.args.self c.requires.server c.args.hands.items c.requires.hands c.room_in-room.result c.room_in-room.ensures.room) c.take_back.new.room c.take_back.new.sessions.items c.take_back.ensures

pub end_all-requires-clause-sessions : goal.end_all-requires-clause-sessions
end_all-requires-clause-sessions g c =
    subst (λ (b : Bool). AreToEnd b c.take_back.new.sessions.items c.args.clients.items) (sym (ends_kept c.args.self c.requires.server c.args.hands.items c.requires.hands c.room_in-room.new.hands.items c.room_in-room.ensures.hands c.room_in-room.result (room_of_all c.args.self c.requires.server c.args.hands.items c.requires.hands c.room_in-room.result c.room_in-room.ensures.room) c.take_back.new.room c.take_back.new.sessions.items c.take_back.ensures))
    (to_end c.args.self c.requires.server c.args.hands.items c.requires.hands c.args.clients.items c.requires.clients c.take_back.new.sessions.items (all_back c.args.self c.requires.server c.args.hands.items c.requires.hands c.room_in-room.new.hands.items c.room_in-room.ensures.hands c.room_in-room.result (room_of_all c.args.self c.requires.server c.args.hands.items c.requires.hands c.room_in-room.result c.room_in-room.ensures.room) c.take_back.new.room c.take_back.new.sessions.items c.take_back.ensures))

pub end_all-requires-clause-room : goal.end_all-requires-clause-room
end_all-requires-clause-room g c = ends_room c.args.self c.requires.server c.args.hands.items c.requires.hands c.room_in-room.new.hands.items c.room_in-room.ensures.hands c.room_in-room.result (room_of_all c.args.self c.requires.server c.args.hands.items c.requires.hands c.room_in-room.result c.room_in-room.ensures.room) c.take_back.new.room c.take_back.new.sessions.items c.take_back.ensures

pub invariant_of-ends : goal.invariant_of-ends
invariant_of-ends g c =
    let a = finished c.args.self c.requires.server c.args.hands.items c.requires.hands c.args.clients.items c.requires.clients c.take_back.new.sessions.items (all_back c.args.self c.requires.server c.args.hands.items c.requires.hands c.room_in-room.new.hands.items c.room_in-room.ensures.hands c.room_in-room.result (room_of_all c.args.self c.requires.server c.args.hands.items c.requires.hands c.room_in-room.result c.room_in-room.ensures.room) c.take_back.new.room c.take_back.new.sessions.items c.take_back.ensures)
    c.requires.accounted c.end_all.result.items c.end_all.result.kept c.end_all.ensures.ended c.close-device.result c.close_pool-frames_home.result c.take_back.new.room.device_seats.items c.take_back.new.room.pool_seats.items
    (device_seats_are c.args.self c.requires.server c.args.hands.items c.requires.hands c.room_in-room.new.hands.items c.room_in-room.ensures.hands c.room_in-room.result (room_of_all c.args.self c.requires.server c.args.hands.items c.requires.hands c.room_in-room.result c.room_in-room.ensures.room) c.take_back.new.room c.take_back.new.sessions.items c.take_back.ensures) (pool_seats_are c.args.self c.requires.server c.args.hands.items c.requires.hands c.room_in-room.new.hands.items c.room_in-room.ensures.hands c.room_in-room.result (room_of_all c.args.self c.requires.server c.args.hands.items c.requires.hands c.room_in-room.result c.room_in-room.ensures.room) c.take_back.new.room c.take_back.new.sessions.items c.take_back.ensures)
    c.close-device.ensures.fixed_part c.close-device.ensures.seats c.close-device.ensures.others c.close_pool-frames_home.ensures.home c.close_pool-frames_home.ensures.refused in
    record {
      clients = c.args.clients.items;
      hands = map hand_end c.args.hands.items;
      are = subst (λ d. AreEnded c.args.clients.items (map hand_end c.args.hands.items) (ends_seen c.end_all.result.items c.end_all.result.kept c.close_pool-frames_home.result (steps_of d).items (shape_of d).size)) (sym c.of-left.ensures) a;
    }

pub returns-clause-ended : goal.returns-clause-ended
returns-clause-ended g c =
    let a = finished c.args.self c.requires.server c.args.hands.items c.requires.hands c.args.clients.items c.requires.clients c.take_back.new.sessions.items (all_back c.args.self c.requires.server c.args.hands.items c.requires.hands c.room_in-room.new.hands.items c.room_in-room.ensures.hands c.room_in-room.result (room_of_all c.args.self c.requires.server c.args.hands.items c.requires.hands c.room_in-room.result c.room_in-room.ensures.room) c.take_back.new.room c.take_back.new.sessions.items c.take_back.ensures)
    c.requires.accounted c.end_all.result.items c.end_all.result.kept c.end_all.ensures.ended c.close-device.result c.close_pool-frames_home.result c.take_back.new.room.device_seats.items c.take_back.new.room.pool_seats.items
    (device_seats_are c.args.self c.requires.server c.args.hands.items c.requires.hands c.room_in-room.new.hands.items c.room_in-room.ensures.hands c.room_in-room.result (room_of_all c.args.self c.requires.server c.args.hands.items c.requires.hands c.room_in-room.result c.room_in-room.ensures.room) c.take_back.new.room c.take_back.new.sessions.items c.take_back.ensures) (pool_seats_are c.args.self c.requires.server c.args.hands.items c.requires.hands c.room_in-room.new.hands.items c.room_in-room.ensures.hands c.room_in-room.result (room_of_all c.args.self c.requires.server c.args.hands.items c.requires.hands c.room_in-room.result c.room_in-room.ensures.room) c.take_back.new.room c.take_back.new.sessions.items c.take_back.ensures)
    c.close-device.ensures.fixed_part c.close-device.ensures.seats c.close-device.ensures.others c.close_pool-frames_home.ensures.home c.close_pool-frames_home.ensures.refused in
    subst (λ d. AreEnded c.args.clients.items (map hand_end c.args.hands.items) (ends_seen c.end_all.result.items c.end_all.result.kept c.close_pool-frames_home.result (steps_of d).items (shape_of d).size)) (sym c.of-left.ensures) a

pub returns-clause-keeps : goal.returns-clause-keeps
returns-clause-keeps g c = c.end_all.ensures.kept ∙ ends_kept c.args.self c.requires.server c.args.hands.items c.requires.hands c.room_in-room.new.hands.items c.room_in-room.ensures.hands c.room_in-room.result (room_of_all c.args.self c.requires.server c.args.hands.items c.requires.hands c.room_in-room.result c.room_in-room.ensures.room) c.take_back.new.room c.take_back.new.sessions.items c.take_back.ensures

use Rattle.std.proofs.Common.{◌≡◌, ◌++◌, map, vec_capacity}
use Rattle.host_worker.proofs.Taking.{AreTakenBack}
use Rattle.host_worker.proofs.finish.take_back.Given as goal

abbrev pub invariant-loop-hand : goal.invariant-loop-hand
invariant-loop-hand g l = record {
  next : (goal.iterator-loop-hand g).can_next l.hand-iterator;
  ends : (goal.iterator-loop-hand g).is_finite l.hand-iterator;
  rest : l.fn.hands.items ≡ l.yielded ++ l.hand-iterator.rest.items;
  device_seats : l.room.device_seats.items ≡ l.fn.room.device_seats.items ++ map (λ hand. hand.device_seat) l.yielded;
  pool_seats : l.room.pool_seats.items ≡ l.fn.room.pool_seats.items ++ map (λ hand. hand.pool_seat) l.yielded;
  reports : l.room.ends ≡ l.fn.room.ends;
  room : (vec_capacity l.room.device_seats ≡ vec_capacity l.fn.room.device_seats) × (vec_capacity l.room.pool_seats ≡ vec_capacity l.fn.room.pool_seats);
  taken : AreTakenBack l.yielded l.fn.sessions.items l.sessions.items;
}

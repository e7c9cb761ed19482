use Rattle.std.proofs.Common.{◌≡◌, ◌++◌, map, vec_capacity}
use Rattle.host_session.proofs.close.gather.Given as goal

abbrev pub invariant-loop-hand : goal.invariant-loop-hand
invariant-loop-hand l = record {
  next : (goal.iterator-loop-hand).can_next l.hand-iterator;
  ends : (goal.iterator-loop-hand).is_finite l.hand-iterator;
  rest : l.fn.hands.items ≡ l.yielded ++ l.hand-iterator.rest.items;
  intake_seats : l.intake_seats.items ≡ map (λ h. h.intake) l.yielded;
  memory_seats : l.memory_seats.items ≡ map (λ h. h.memory) l.yielded;
  senders : l.senders.items ≡ map (λ h. h.sender) l.yielded;
  room : (vec_capacity l.intake_seats ≡ vec_capacity l.fn.closing.intake_seats) × (vec_capacity l.memory_seats ≡ vec_capacity l.fn.closing.memory_seats) × (vec_capacity l.senders ≡ vec_capacity l.fn.closing.senders);
}

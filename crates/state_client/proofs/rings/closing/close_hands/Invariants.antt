use Rattle.std.proofs.Common.{◌≡◌, ◌≤◌, ◌++◌, map, vec_len, vec_capacity}
use Rattle.state_client.proofs.rings.closing.close_hands.Given as goal

abbrev pub invariant-loop-hand : goal.invariant-loop-hand
invariant-loop-hand l = record {
  next : (goal.iterator-loop-hand).can_next l.hand-iterator;
  ends : (goal.iterator-loop-hand).is_finite l.hand-iterator;
  rest : l.fn.hands.items ≡ l.yielded ++ l.hand-iterator.rest.items;
  senders : l.senders.items ≡ map (λ h. h.sender) l.yielded;
  room : vec_len l.fn.hands ≤ vec_capacity l.senders;
}

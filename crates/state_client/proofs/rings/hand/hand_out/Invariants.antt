use Rattle.std.proofs.Common.{◌≡◌, ◌≤◌, ◌++◌, map, vec_len, vec_capacity}
use Rattle.state_client.proofs.rings.hand.hand_out.Given as goal

abbrev pub invariant-loop-sender : goal.invariant-loop-sender
invariant-loop-sender l = record {
  next : (goal.iterator-loop-sender).can_next l.sender-iterator;
  ends : (goal.iterator-loop-sender).is_finite l.sender-iterator;
  rest : l.fn.senders.items ≡ l.yielded ++ l.sender-iterator.rest.items;
  hands : map (λ h. h.sender) l.hands.items ≡ l.yielded;
  room : vec_len l.fn.senders ≤ vec_capacity l.hands;
}

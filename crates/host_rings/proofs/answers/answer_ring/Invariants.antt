use Rattle.std.proofs.Common.{◌≡◌, ◌≤◌, [], length, vec_capacity}
use Rattle.host_rings.specs.{slip_taker_of, AreFresh}
use Rattle.host_rings.proofs.answers.answer_ring.Given as goal

abbrev pub invariant-loop : goal.invariant-loop
invariant-loop l = record {
  count : length l.senders.items ≡ l.counter;
  room : l.hands ≤ vec_capacity l.senders;
  fresh : AreFresh l.taker.ring l.depth l.senders.items;
  taker : l.taker ≡ slip_taker_of l.taker.ring l.depth l.counter [] [];
}

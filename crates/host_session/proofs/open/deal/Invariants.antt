use Rattle.std.proofs.Common.{◌≡◌, ◌+◌, ◌≤◌, ◌++◌, map, reverse, vec_len, vec_capacity}
use Rattle.host_rings.specs.{EachPlace}
use Rattle.host_session.specs.{HaveRoomAs, IsDealt, IsToDeal}
use Rattle.host_session.proofs.open.deal.Given as goal

abbrev pub invariant-loop-closing : goal.invariant-loop-closing
invariant-loop-closing l = record {
  left : IsToDeal l.intake l.memory l.closing;
  senders : l.fn.closing.senders.items ≡ l.closing.senders.items ++ map (λ hand. hand.sender) (reverse l.all.items);
  dealt : EachPlace (λ k. IsDealt l.intake l.memory (vec_len l.closing.senders + k)) (reverse l.all.items);
  room : HaveRoomAs l.fn.closing l.closing;
  fits : vec_len l.all + vec_len l.closing.senders ≤ vec_capacity l.all;
}

abbrev pub decreases-loop-closing : goal.decreases-loop-closing
decreases-loop-closing l = vec_len l.closing.senders

use Rattle.std.proofs.Common.{◌≡◌, ◌++◌, length}
use Rattle.host_worker.proofs.Taking.{IsPutBack}
use Rattle.host_worker.proofs.finish.put_back.Given as goal

abbrev pub invariant-loop-hand : goal.invariant-loop-hand
invariant-loop-hand l = record {
  next : (goal.iterator-loop-hand).can_next l.hand-iterator;
  ends : (goal.iterator-loop-hand).is_finite l.hand-iterator;
  rest : l.fn.share.items ≡ l.yielded ++ l.hand-iterator.rest.items;
  place : l.k ≡ length l.yielded;
  back : IsPutBack l.k l.fn.share.items l.fn.sessions.items l.sessions.items;
}
